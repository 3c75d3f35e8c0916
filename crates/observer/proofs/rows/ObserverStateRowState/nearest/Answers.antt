use Rattle.std.proofs.Common.{◌≡◌, ℕ, ℤ, arith}
use Rattle.std.proofs.lemmas.Int.{ints, clamps}
use Rattle.filter.specs.Common.{limit}
use Rattle.filter.proofs.Rows.{place}
use Rattle.observer.specs.declared.plain.ObserverState.{ObserverState}
use Rattle.observer.proofs.rows.ObserverStateRowState.nearest.Goals as goal

same : {l l' n n' : ℕ} {a a' b b' : ℤ} → l ≡ l' → a ≡ a' → b ≡ b' → n ≡ n' → ◌≡◌ {A = ObserverState} (record { last = l; level = record { low = a; high = b }; conflicts = n }) (record { last = l'; level = record { low = a'; high = b' }; conflicts = n' })
same p q r t = cc

pub returns-clause-possible : goal.returns-clause-possible
returns-clause-possible c = (omega (arith, ints, clamps), omega (arith, ints), omega (arith, ints, clamps), omega (arith, ints), omega (arith, ints, clamps))

pub returns-clause-back : goal.returns-clause-back
unfolding limit
returns-clause-back c = λ s p e.
    let low : c.limited-low.result ≡ s.level.low = omega (arith, ints, clamps, place 2 e) in
    let high : c.limited-high.result ≡ s.level.high = omega (arith, ints, clamps, place 3 e) in
    same (omega (arith, ints, clamps, place 1 e)) (omega (arith, ints)) (omega (arith, ints, clamps)) (omega (arith, ints, clamps, place 4 e))
