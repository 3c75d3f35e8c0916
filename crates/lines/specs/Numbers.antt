-- Whole numbers in lines of text.
use Rattle.std.specs.Prelude.{ℕ, Bool, cond, ◌&&◌, List, [], ◌∷◌, length, ℤ, pos, negsuc, Some, None, Option, ◌==◌, int_le, nat_lt}
use Rattle.std.specs.Option.{option_map}
use Rattle.std.specs.Str.Parse.{without_leading_sign, signed_digits_value}
use Rattle.std.specs.Str.{all_ascii_digits}

-- one decimal digit or more, after any sign
unfoldable pub written : List ℕ → Bool
written text = nat_lt 0 (length (without_leading_sign text)) && all_ascii_digits (without_leading_sign text)

-- whether a number has a place in 64 bits
unfoldable pub wide : ℤ → Bool
wide z = int_le (negsuc 9223372036854775807) z && int_le z (pos 9223372036854775807)

-- the number that a text writes
abbrev pub numeral : List ℕ → Option ℤ
numeral text = cond (written text && wide (signed_digits_value 10 text)) (Some (signed_digits_value 10 text)) None

-- what stands before the first space, and what stands behind it
abbrev pub split : List ℕ → Option (List ℕ × List ℕ)
split [] = None
split (c ∷ cs) = cond (c == 32) (Some ([], cs)) (option_map (λ p. (c ∷ p.0, p.1)) (split cs))

-- the number before the first space, and what stands behind it
abbrev pub taken_from : Option (List ℕ × List ℕ) → Option (ℤ × List ℕ)
taken_from None = None
taken_from (Some p) = option_map (λ n. (n, p.1)) (numeral p.0)

abbrev pub taken : List ℕ → Option (ℤ × List ℕ)
taken text = taken_from (split text)
