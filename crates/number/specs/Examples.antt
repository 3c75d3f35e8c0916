-- Numbers worked by hand.
use Rattle.std.specs.Prelude.{ℕ, List, [], ◌∷◌, negsuc, Result}
use Rattle.reading.specs.declared.plain.Refusal.{Refusal}
use Rattle.number.specs.declared.leb128.Number.{Number}
use Rattle.number.specs.Numbers.{decoded, encoded}
use Rattle.number.specs.Signs.{folded}

-- the bytes of 300; what 80 00 is read as; the number of -1,000,000
abbrev pub worked : List ℕ × Result Number Refusal × ℕ
worked = (encoded 300, decoded (0x80 ∷ 0x00 ∷ []), folded (negsuc 999999))
