use Rattle.std.proofs.Common.{◌≡◌, ℕ, ◌+◌, ◌<◌, length, take, drop, get_or, set, map, pos, sym, ap, subst, ◌∙◌, arith}
use Rattle.std.proofs.lemmas.List.{length-map, length-take, length-drop, length-set, ext_get_or, get_or-map, get_or-take, get_or-drop}
use Rattle.std.proofs.lemmas.List.Edits.{fill_by_more}
use Rattle.std.proofs.lemmas.Int.{ints, clamps}
use Rattle.histogram.specs.Rows.{near}
use Rattle.histogram.proofs.rows.counts_near.Goals as goal

pub loop-k-preserved : goal.loop-k-preserved
loop-k-preserved c =
    let f : ℕ → ℕ = λ k. near (get_or c.args.row.now (2 + k) (pos 0)) in
    let v : f c.loop-k.k ≡ c.count_near.result = omega (arith, ints, clamps, c.count_near.ensures) in (
      simp length-set c.loop-k.invariant.0,
      subst (λ (y : ℕ). (k : ℕ) → k < c.loop-k.k + 1 → get_or (set c.loop-k.counts c.loop-k.k y) k 0 ≡ f k) v (fill_by_more f c.loop-k.counts c.loop-k.k 0 (omega arith) c.loop-k.invariant.1),
    )

pub returns : goal.returns
returns c =
    let row = c.args.row.now in
    let numbers = take 16 (drop 2 row) in
    let n : length numbers ≡ 16 = omega (arith, length-take 16 (drop 2 row), length-drop 2 row) in
    ext_get_or 0 c.loop-k.counts (map near numbers) (omega (arith, length-map numbers near))
    (λ k h. c.loop-k.invariant.1 k (omega arith)
    ∙ ap near (sym (get_or-drop 2 row k (pos 0)) ∙ sym (get_or-take 16 (drop 2 row) k (pos 0) (omega arith)))
    ∙ sym (get_or-map near numbers k (pos 0) 0 (omega arith)))
