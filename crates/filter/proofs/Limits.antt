-- What limiting a number gives.
use Rattle.std.proofs.Common.{◌≡◌, ℕ, ◌≤◌, ℤ, nat_abs, arith}
use Rattle.std.proofs.lemmas.Int.{ints, clamps}
use Rattle.filter.specs.Common.{limit}

pub limit_within : (most : ℕ) (z : ℤ) → nat_abs (limit most z) ≤ most
unfolding limit
limit_within most z = omega (arith, ints, clamps)

pub limit_same : (most : ℕ) (z : ℤ) → nat_abs z ≤ most → limit most z ≡ z
unfolding limit
limit_same most z h = omega (arith, ints, clamps)
