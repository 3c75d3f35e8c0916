-- Which reading a layer passes on, and when.
use Rattle.std.specs.Prelude.{ℕ, Bool, true, cond, ℤ, pos, ◌-ℤ◌, Some, None, Option, nat_le, slice_index_or, unsigned_abs}
use Rattle.reading.specs.Ranges.{value_max}
use Rattle.reading.specs.declared.plain.Entry.{Entry}
use Rattle.filter.specs.Common.{limit}
use Rattle.layers.specs.declared.biases.Biases.{Biases}
use Rattle.layers.specs.declared.limit.Limit.{Limit}

-- the reading with its value less by a bias, limited to what a reading may have; all else as it came
abbrev pub corrected : ℤ → Entry → Entry
corrected bias e =
    record { stamp = e.stamp; sensor = e.sensor; number = e.number; value = limit value_max (e.value -ℤ bias); spread = e.spread }

-- a step of the bias layer: the filter below steps through the corrected reading
abbrev pub biased : {C S : Type 0} → (C → S → Entry → S) → Biases × C → S → Entry → S
biased step c s e = step c.1 s (corrected (slice_index_or c.0.by_sensor e.sensor (pos 0)) e)

-- a value passes where nothing is forecast, or where it differs from the forecast by at most the limit
abbrev pub passes : ℕ → Option ℤ → ℤ → Bool
passes most None value = true
passes most (Some expected) value = nat_le (unsigned_abs (value -ℤ expected)) most

-- a step of the gate: the filter below steps through a reading that passes, and else its state stays
abbrev pub gated : {C S : Type 0} → (C → S → ℕ → Option ℤ) → (C → S → Entry → S) → Limit × C → S → Entry → S
gated forecast step c s e = cond (passes c.0.most (forecast c.1 s e.stamp) e.value) (step c.1 s e) s
