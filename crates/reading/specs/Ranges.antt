-- The ranges that every reading and every key keeps.
use Rattle.std.specs.Prelude.{ℕ, ◌≤◌, Bool, ◌&&◌, nat_le, unsigned_abs}
use Rattle.reading.specs.declared.plain.Entry.{Entry}
use Rattle.reading.specs.declared.plain.EntryKey.{EntryKey}

-- the last stamp, in ticks
abbrev pub stamp_max : ℕ
stamp_max = 281474976710655

abbrev pub sensor_max : ℕ
sensor_max = 15

abbrev pub number_max : ℕ
number_max = 4294967295

-- how far a value may lie from 0
abbrev pub value_max : ℕ
value_max = 1000000

abbrev pub spread_max : ℕ
spread_max = 10000

abbrev pub RangedKey : EntryKey → Type 0
RangedKey k = (k.stamp ≤ stamp_max) × (k.sensor ≤ sensor_max) × (k.number ≤ number_max)

abbrev pub Ranged : Entry → Type 0
Ranged e =
    (e.stamp ≤ stamp_max)
    × (e.sensor ≤ sensor_max)
    × (e.number ≤ number_max)
    × (unsigned_abs e.value ≤ value_max)
    × (e.spread ≤ spread_max)

-- whether five numbers are those of a reading
unfoldable pub ranged : Entry → Bool
ranged e =
    nat_le e.stamp stamp_max
    && (nat_le e.sensor sensor_max
    && (nat_le e.number number_max
    && (nat_le (unsigned_abs e.value) value_max
    && nat_le e.spread spread_max)))

-- the key of a reading
abbrev pub key_of : Entry → EntryKey
key_of e = record { stamp = e.stamp; sensor = e.sensor; number = e.number }
