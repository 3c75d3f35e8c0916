-- A corrected reading is a reading.
use Rattle.std.specs.Prelude.{ℤ, ◌-ℤ◌}
use Rattle.reading.specs.Ranges.{Ranged, value_max}
use Rattle.reading.specs.declared.plain.Entry.{Entry}
use Rattle.filter.proofs.Limits.{limit_within}
use Rattle.layers.specs.Passing.{corrected}

pub corrected_ranged : (bias : ℤ) (e : Entry) → Ranged e → Ranged (corrected bias e)
corrected_ranged bias e r = (r.0, r.1, r.2, limit_within value_max (e.value -ℤ bias), r.4)
