-- Numbers as bytes: groups of seven bits, lowest first, the top bit set where another follows.
use Rattle.std.specs.Prelude.{◌≡◌, ℕ, zero, suc, ◌+◌, ◌-◌, ◌*◌, ◌/◌, ◌%◌, ◌≤◌, cond, List, [], ◌∷◌, ◌++◌, length, drop, Ok, Err, Result, ◌==◌, nat_lt}
use Rattle.reading.specs.declared.plain.Refusal.{Refusal}
use Rattle.reading.specs.declared.plain.Refusal.TheVariants.{CutNumber, LongNumber, LargeNumber}
use Rattle.reading.specs.Making.{refuse}
use Rattle.number.specs.declared.leb128.Number.{Number}
use Rattle.number.specs.Spaces.{placed}

-- 2 ^ 48 - 1
abbrev pub largest : ℕ
largest = 281474976710655

-- a number with how many bytes it took
abbrev pub number : ℕ → ℕ → Number
number value width = record { value = value; width = width }

-- a last group, with k groups left behind it: a seventh one has six bits
abbrev pub last : ℕ → ℕ → Result Number Refusal
last zero group = refuse (nat_lt 63 group) LargeNumber (Ok (number group 1))
last (suc k) group = Ok (number group 1)

-- a group that others follow: where those are worth 0, the form is not the shortest
abbrev pub more : ℕ → Result Number Refusal → Result Number Refusal
more group (Ok n) = refuse (n.value == 0) LongNumber (Ok (number (group + 128 * n.value) (n.width + 1)))
more group (Err e) = Err e

-- the number that bytes begin with, in at most k groups
abbrev pub decoded_by : ℕ → List ℕ → Result Number Refusal
decoded_by zero bytes = Err LargeNumber
decoded_by (suc k) [] = Err CutNumber
decoded_by (suc k) (b ∷ bytes) = cond (nat_lt b 128) (last k b) (more (b - 128) (decoded_by k bytes))

-- the number that bytes begin with, or why there is none
unfoldable pub decoded : List ℕ → Result Number Refusal
decoded bytes = decoded_by 7 bytes

-- a number in at most k groups and a last one
abbrev pub encoded_by : ℕ → ℕ → List ℕ
encoded_by zero n = n ∷ []
encoded_by (suc k) n = cond (nat_lt n 128) (n ∷ []) ((128 + n % 128) ∷ encoded_by k (n / 128))

-- the bytes of a number
unfoldable pub encoded : ℕ → List ℕ
encoded n = encoded_by 6 n

-- the place behind a number that is written into a space at a place
abbrev pub encoding : List ℕ → ℕ → ℕ → Result ℕ Refusal
encoding space at n = refuse (nat_lt largest n) LargeNumber (placed space at (encoded n))

-- what is read was written so: the bytes begin with the number's own, and its width is theirs
pub record Exact (bytes : List ℕ) (n : Number) : Type 0 where
  pub front : bytes ≡ encoded n.value ++ drop n.width bytes
  pub width : n.width ≡ length (encoded n.value)
  pub small : n.value ≤ largest

-- what is written is read back, whatever follows it
abbrev pub ReadBack : Type 0
ReadBack = (n : ℕ) (rest : List ℕ) → n ≤ largest → decoded (encoded n ++ rest) ≡ Ok (number n (length (encoded n)))
