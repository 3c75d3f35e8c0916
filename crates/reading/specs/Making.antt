-- What making a stamp, a key or a reading answers: the thing made, or the first refusal that applies.
use Rattle.std.specs.Prelude.{ℕ, Bool, cond, ℤ, Ok, Err, Result, nat_lt, unsigned_abs}
use Rattle.reading.specs.declared.plain.Entry.{Entry}
use Rattle.reading.specs.declared.plain.EntryKey.{EntryKey}
use Rattle.reading.specs.declared.plain.Refusal.{Refusal}
use Rattle.reading.specs.declared.plain.Refusal.TheVariants.{Stamp, Sensor, Number, Value, Spread}
use Rattle.reading.specs.Ranges.{stamp_max, sensor_max, number_max, value_max, spread_max}

-- refused where the test holds, and else as what follows says
abbrev pub refuse : {A : Type 0} → Bool → Refusal → Result A Refusal → Result A Refusal
refuse test refusal next = cond test (Err refusal) next

abbrev pub stamped : ℕ → Result ℕ Refusal
stamped ticks = refuse (nat_lt stamp_max ticks) Stamp (Ok ticks)

-- what follows once the three numbers of a key are in range
abbrev pub from_key : {A : Type 0} → ℕ → ℕ → ℕ → Result A Refusal → Result A Refusal
from_key stamp sensor number next =
    refuse (nat_lt stamp_max stamp) Stamp
    (refuse (nat_lt sensor_max sensor) Sensor
    (refuse (nat_lt number_max number) Number next))

abbrev pub keyed : ℕ → ℕ → ℕ → Result EntryKey Refusal
keyed stamp sensor number = from_key stamp sensor number (Ok (record { stamp = stamp; sensor = sensor; number = number }))

abbrev pub entered : ℕ → ℕ → ℕ → ℤ → ℕ → Result Entry Refusal
entered stamp sensor number value spread =
    from_key stamp sensor number
    (refuse (nat_lt value_max (unsigned_abs value)) Value
    (refuse (nat_lt spread_max spread) Spread
    (Ok (record { stamp = stamp; sensor = sensor; number = number; value = value; spread = spread }))))

-- an answer by the plain numbers of what was made
abbrev pub map_ok : {A B : Type 0} → (A → B) → Result A Refusal → Result B Refusal
map_ok f (Ok x) = Ok (f x)
map_ok f (Err e) = Err e
