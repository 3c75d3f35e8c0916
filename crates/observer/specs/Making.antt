-- What testing an observer's setting answers.
use Rattle.std.specs.Prelude.{ℕ, Ok, Result, nat_lt}
use Rattle.reading.specs.declared.plain.Refusal.{Refusal}
use Rattle.reading.specs.declared.plain.Refusal.TheVariants.{Setting}
use Rattle.reading.specs.Making.{refuse}
use Rattle.observer.specs.Ranges.{rate_max}

abbrev pub rated : ℕ → Result ℕ Refusal
rated rate = refuse (nat_lt rate_max rate) Setting (Ok rate)
