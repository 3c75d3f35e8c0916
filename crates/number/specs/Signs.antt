-- Signed values as numbers.
use Rattle.std.specs.Prelude.{◌≡◌, ℕ, ◌+◌, ◌*◌, ◌/◌, ◌%◌, cond, ℤ, pos, negsuc, ◌==◌}

-- 2v, or -2v - 1 where v is negative; negsuc k is -k - 1
abbrev pub folded : ℤ → ℕ
folded (pos k) = 2 * k
folded (negsuc k) = 2 * k + 1

abbrev pub unfolded : ℕ → ℤ
unfolded n = cond (n % 2 == 0) (pos (n / 2)) (negsuc (n / 2))

-- each signed value has a number of its own, and each number a value
pub record SignLaw : Type 0 where
  pub value_back : (v : ℤ) → unfolded (folded v) ≡ v
  pub number_back : (n : ℕ) → folded (unfolded n) ≡ n
