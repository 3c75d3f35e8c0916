-- The row of a histogram's state, and the counts of a row.
use Rattle.std.specs.Prelude.{◌≡◌, ℕ, suc, ◌-◌, ◌≤◌, List, [], ◌∷◌, ◌++◌, map, length, take, drop, replicate, ℤ, pos, slice_index, unsigned_abs}
use Rattle.std.specs.Int.{int_min, int_max}
use Rattle.std.proofs.Common.{refl, sym, ap, ◌∙◌, arith}
use Rattle.std.proofs.Math.Seq.{take-append_seam}
use Rattle.std.proofs.lemmas.Int.{ints, clamps}
use Rattle.std.proofs.lemmas.List.{take_all, length-map}
use Rattle.histogram.specs.Counting.{row, Possible}
use Rattle.histogram.specs.Ranges.{count_max}
use Rattle.histogram.specs.declared.plain.HistogramState.{HistogramState}

-- the count that comes nearest to a number
abbrev pub near : ℤ → ℕ
near z = unsigned_abs (int_max (pos 0) (int_min z (pos count_max)))

-- the counts that come nearest to those of a row
abbrev pub counts_near : List ℤ → List ℕ
counts_near row = map near (take 16 (drop 2 row))

-- a row of sixteen counts
abbrev laid : HistogramState → List ℤ
laid s = (pos 2 ∷ pos s.last ∷ map pos s.counts) ++ replicate 6 (pos 0)

pub row_laid : (s : HistogramState) → length s.counts ≡ 16 → row s ≡ laid s
row_laid s h =
    let head = pos 2 ∷ pos s.last ∷ map pos s.counts in
    let n = length-map s.counts pos in
    let k : 24 - length head ≡ 6 = omega arith in
    ap (λ (xs : List ℤ). xs ++ replicate (24 - length head) (pos 0)) (take_all 24 head (omega arith)) ∙ ap (λ m. head ++ replicate m (pos 0)) k

near_all : (ns : List ℕ) → ((k : ℕ) → slice_index ns k ≤ count_max) → map near (map pos ns) ≡ ns
near_all [] h = refl
near_all (n ∷ ns) h = let first : near (pos n) ≡ n = omega (arith, ints, clamps, h 0) in let rest = near_all ns (λ k. h (suc k)) in cc

sixteen : (zs ys : List ℤ) → length zs ≡ 16 → take 16 (zs ++ ys) ≡ zs
sixteen zs ys h = ap (λ n. take n (zs ++ ys)) (sym h) ∙ take-append_seam zs ys

-- the counts of a state's row are the state's
pub read_back : (s : HistogramState) → Possible s → counts_near (row s) ≡ s.counts
read_back s p =
    ap counts_near (row_laid s p.1)
    ∙ ap (map near) (sixteen (map pos s.counts) (replicate 6 (pos 0)) (omega (arith, length-map s.counts pos)))
    ∙ near_all s.counts p.2

pub same : {l l' : ℕ} {ns ns' : List ℕ} → l ≡ l' → ns ≡ ns' → ◌≡◌ {A = HistogramState} (record { last = l; counts = ns }) (record { last = l'; counts = ns' })
same a b = cc
