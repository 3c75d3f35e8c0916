-- What setting a bias and testing a limit answer and leave.
use Rattle.std.specs.Prelude.{ℕ, cond, List, ℤ, is_ok, Ok, Result, nat_lt, slice_set, unsigned_abs}
use Rattle.reading.specs.Making.{refuse}
use Rattle.reading.specs.Ranges.{sensor_max}
use Rattle.reading.specs.declared.plain.Refusal.{Refusal}
use Rattle.reading.specs.declared.plain.Refusal.TheVariants.{Sensor, Setting}
use Rattle.layers.specs.Ranges.{bias_max, limit_max}

abbrev pub set_answer : ℕ → ℤ → Result (Unit {0}) Refusal
set_answer sensor bias = refuse (nat_lt sensor_max sensor) Sensor (refuse (nat_lt bias_max (unsigned_abs bias)) Setting (Ok tt))

-- the table with that one bias changed, or as it was where that is refused
abbrev pub set_left : List ℤ → ℕ → ℤ → List ℤ
set_left biases sensor bias = cond (is_ok (set_answer sensor bias)) (slice_set biases sensor bias) biases

abbrev pub limited_to : ℕ → Result ℕ Refusal
limited_to most = refuse (nat_lt limit_max most) Setting (Ok most)
