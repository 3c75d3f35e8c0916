-- What testing a tracker's settings answers.
use Rattle.std.specs.Prelude.{ℕ, Ok, Result, nat_lt}
use Rattle.reading.specs.declared.plain.Refusal.{Refusal}
use Rattle.reading.specs.declared.plain.Refusal.TheVariants.{Setting}
use Rattle.reading.specs.Making.{refuse}
use Rattle.tracker.specs.Ranges.{scale}

abbrev pub gained : ℕ → ℕ → Result (ℕ × ℕ) Refusal
gained a b = refuse (nat_lt scale a) Setting (refuse (nat_lt scale b) Setting (Ok (a, b)))
