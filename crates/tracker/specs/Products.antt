-- Products of whole numbers, and parts of them, read as `up z - down z`.
use Rattle.std.specs.Prelude.{ℕ, zero, suc, ◌-◌, ◌*◌, ◌<◌, ◌≤◌, ℤ, pos, negsuc, ◌*ℤ◌, neg_ℤ, unsigned_abs}
use Rattle.std.proofs.Math.Nat.{zero-div, div-le_of_le-mul}
use Rattle.std.proofs.Common.{mul-le-mul_left, arith}
use borrow.Author.Differences.{up, down}
use Rattle.std.specs.Int.{int_div_euclid}
use Rattle.std.proofs.lemmas.Int.{unsigned_abs-mul}
use Rattle.std.proofs.lemmas.Nat.{mul-le, div_below}
use Rattle.tracker.specs.Tracking.{part}

pub product_within : (z y : ℤ) (m n : ℕ) → unsigned_abs z ≤ m → unsigned_abs y ≤ n → unsigned_abs (z *ℤ y) ≤ m * n
product_within z y m n h e = omega (arith, unsigned_abs-mul z y, mul-le (unsigned_abs z) (unsigned_abs y) m n h e)

floor_negative : (m k n : ℕ) → 0 < k → m ≤ suc n * k → (up (int_div_euclid (neg_ℤ (pos m)) (pos k)) ≤ 0) × (down (int_div_euclid (neg_ℤ (pos m)) (pos k)) ≤ suc n)
floor_negative zero k n p h = (omega (arith, zero-div k), omega arith)
floor_negative (suc m) k n p h = (omega arith, div_below m k (suc n) p (omega arith))

at_most : (m gain n : ℕ) → gain ≤ n → m * gain ≤ n * m
at_most m gain n h = omega (arith, mul-le-mul_left m h)

-- a part of z lies from 0 to z
pub part_between : (z : ℤ) (gain n : ℕ) → gain ≤ n → 0 < n → (up (part z gain n) ≤ up z - down z) × (down (part z gain n) ≤ down z - up z)
unfolding part
part_between (pos m) gain n h p = (omega (arith, div-le_of_le-mul n (at_most m gain n h)), omega arith)
part_between (negsuc m) gain n h p = let f = floor_negative (suc m * gain) n m p (mul-le-mul_left (suc m) h) in (omega (arith, f), omega (arith, f))
