-- Where a count stands in a row, and how counts are written into a blank one.
use Rattle.std.specs.Prelude.{◌≡◌, ℕ, ◌+◌, ◌<◌, List, [], ◌∷◌, ◌++◌, map, length, replicate, ℤ, pos, slice_index, slice_index_or, slice_set}
use Rattle.std.proofs.Common.{sym, ◌∙◌, arith}
use Rattle.std.proofs.Math.Seq.{paste}
use Rattle.std.proofs.lemmas.List.Edits.{paste_more, paste_all}
use Rattle.std.proofs.lemmas.List.{get_or-append-add, get_or_append_left, get_or-map, length-map}
use Rattle.filter.proofs.Rows.{place}
use Rattle.histogram.specs.Counting.{row}
use Rattle.histogram.specs.Rows.{row_laid}
use Rattle.histogram.specs.declared.plain.HistogramState.{HistogramState}

-- a row that holds no count yet
abbrev pub blank : ℕ → List ℤ
blank last = pos 2 ∷ pos last ∷ replicate 22 (pos 0)

-- the counts written into a blank row
pub pasted_all : (s : HistogramState) → length s.counts ≡ 16 → paste (blank s.last) 2 (map pos s.counts) 16 ≡ row s
pasted_all s h = let n = length-map s.counts pos in paste_all (blank s.last) 2 (map pos s.counts) 16 (omega arith) ∙ sym (row_laid s h)

pub pasted_more : (last : ℕ) (ns : List ℕ) (i : ℕ) → length ns ≡ 16 → i < 16 → slice_set (paste (blank last) 2 (map pos ns) i) (2 + i) (pos (slice_index ns i)) ≡ paste (blank last) 2 (map pos ns) (i + 1)
pasted_more last ns i l h =
    let n = length-map ns pos in
    let b = get_or-map pos ns i 0 (pos 0) (omega arith) in
    let p = paste_more (blank last) 2 (map pos ns) i (pos 0) (omega arith) (omega arith) in
    cc

-- the place of a count in the row
pub count_place : (s : HistogramState) (k : ℕ) → length s.counts ≡ 16 → k < 16 → slice_index_or (row s) (2 + k) (pos 0) ≡ pos (slice_index s.counts k)
count_place s k l h =
    sym (place (2 + k) (row_laid s l))
    ∙ get_or-append-add (pos 2 ∷ pos s.last ∷ []) (map pos s.counts ++ replicate 6 (pos 0)) k (pos 0)
    ∙ get_or_append_left (map pos s.counts) (replicate 6 (pos 0)) (pos 0) k (omega (arith, length-map s.counts pos))
    ∙ get_or-map pos s.counts k 0 (pos 0) (omega arith)
