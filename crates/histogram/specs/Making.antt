-- What testing a histogram's settings answers.
use Rattle.std.specs.Prelude.{ℕ, ℤ, Ok, Result, nat_lt, unsigned_abs}
use Rattle.reading.specs.declared.plain.Refusal.{Refusal}
use Rattle.reading.specs.declared.plain.Refusal.TheVariants.{Setting}
use Rattle.reading.specs.Making.{refuse}
use Rattle.histogram.specs.Ranges.{origin_max, width_max}

abbrev pub binned : ℤ → ℕ → Result (ℤ × ℕ) Refusal
binned origin width =
    refuse (nat_lt origin_max (unsigned_abs origin)) Setting
    (refuse (nat_lt width 1) Setting
    (refuse (nat_lt width_max width) Setting (Ok (origin, width))))
