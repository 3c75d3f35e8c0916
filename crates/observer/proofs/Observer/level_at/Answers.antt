use Rattle.std.proofs.Common.{◌≡◌, ℤ, ap, ◌∙◌, arith, w32, w64, to_z, of_z}
use Rattle.std.proofs.lemmas.Int.{ints}
use Rattle.filter.specs.Common.{limit}
use Rattle.observer.specs.declared.plain.Interval.{Interval}
use Rattle.observer.specs.Ranges.{level_max}
use Rattle.observer.proofs.Observer.level_at.Goals as goal

same : {a a' b b' : ℤ} → a ≡ a' → b ≡ b' → ◌≡◌ {A = Interval} (record { low = a; high = b }) (record { low = a'; high = b' })
same p q = cc

pub returns : goal.returns
returns c =
    let low : to_z w32 (of_z w32 (to_z w64 (of_z w64 c.limited.result))) ≡ c.limited.result = omega (arith, ints) in
    let high : to_z w32 (of_z w32 (to_z w64 (of_z w64 c.limited-2.result))) ≡ c.limited-2.result = omega (arith, ints) in
    same (low ∙ c.limited.ensures.value ∙ ap (limit level_max) (omega (arith, ints))) (high ∙ c.limited-2.ensures.value ∙ ap (limit level_max) (omega (arith, ints)))
