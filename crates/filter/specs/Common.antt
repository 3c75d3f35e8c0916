-- Definitions that all filters share.
use Rattle.std.specs.Prelude.{ℕ, ◌-◌, max, List, ◌++◌, length, take, replicate, ℤ, pos, neg_ℤ, Ok, Result, nat_lt}
use Rattle.reading.specs.Making.{refuse}
use Rattle.reading.specs.declared.plain.Refusal.{Refusal}
use Rattle.reading.specs.declared.plain.Refusal.TheVariants.{Setting}
use Rattle.std.specs.Int.{int_min, int_max, int_div_euclid}

-- the ticks from the last stamp to a new one, or 0 where the new one is earlier
abbrev pub elapsed : ℕ → ℕ → ℕ
elapsed last stamp = stamp - last

-- the last stamp after a reading: the greater of the two
abbrev pub latest : ℕ → ℕ → ℕ
latest last stamp = max last stamp

-- a number as a setting, refused above the greatest that it may be
abbrev pub setting : ℕ → ℕ → Result ℕ Refusal
setting n most = refuse (nat_lt most n) Setting (Ok n)

-- z, limited to -most to most
unfoldable pub limit : ℕ → ℤ → ℤ
limit most z = int_max (neg_ℤ (pos most)) (int_min z (pos most))

-- ⌊z / n⌋, the greatest whole number not above z / n, for n above 0
abbrev pub floor_div : ℤ → ℕ → ℤ
floor_div z n = int_div_euclid z (pos n)

-- a row: the numbers given, at most 24, then zeros up to 24
abbrev pub padded : List ℤ → List ℤ
padded head = take 24 head ++ replicate (24 - length head) (pos 0)
