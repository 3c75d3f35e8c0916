-- Readings in lines of text.
use Rattle.std.specs.Prelude.{ℕ, List, ℤ, pos, negsuc, Some, None, Ok, Err, Option, Result}
use Rattle.std.specs.Option.{option_map}
use Rattle.reading.specs.Making.{entered, keyed}
use Rattle.reading.specs.declared.plain.Entry.{Entry}
use Rattle.reading.specs.declared.plain.EntryKey.{EntryKey}
use Rattle.reading.specs.declared.plain.Refusal.{Refusal}
use Rattle.lines.specs.Numbers.{numeral, taken}
use Rattle.lines.specs.declared.plain.Figures.{Figures}
use Rattle.lines.specs.declared.plain.LineFault.{LineFault}
use Rattle.lines.specs.declared.plain.LineFault.TheVariants.{Malformed, Refused}

-- with what came, go on; with nothing, nothing
abbrev pub then : {A B : Type 0} → Option A → (A → Option B) → Option B
then None f = None
then (Some x) f = f x

-- the five numbers of a line: stamp, sensor, number, value and spread
unfoldable pub figures : List ℕ → Option Figures
figures line =
    then (taken line) (λ stamp.
    then (taken stamp.1) (λ sensor.
    then (taken sensor.1) (λ number.
    then (taken number.1) (λ value.
    option_map (λ spread. record { stamp = stamp.0; sensor = sensor.0; number = number.0; value = value.0; spread = spread }) (numeral value.1)))))

-- a negative number is in no unsigned range, so it counts as the greatest number
abbrev pub unsigned : ℤ → ℕ
unsigned (pos n) = n
unsigned (negsuc n) = 18446744073709551615

abbrev pub judged : {A : Type 0} → Result A Refusal → Result A LineFault
judged (Ok e) = Ok e
judged (Err r) = Err (Refused r)

abbrev pub read_as : Option Figures → Result Entry LineFault
read_as None = Err Malformed
read_as (Some f) = judged (entered (unsigned f.stamp) (unsigned f.sensor) (unsigned f.number) f.value (unsigned f.spread))

-- what a line of text reads as: a reading's numbers, or why it is none
abbrev pub line_read : List ℕ → Result Entry LineFault
line_read line = read_as (figures line)

-- an answer by the plain numbers of what was read
abbrev pub mapped_ok : {A B : Type 0} → (A → B) → Result A LineFault → Result B LineFault
mapped_ok f (Ok x) = Ok (f x)
mapped_ok f (Err e) = Err e

abbrev pub key_figures : List ℕ → Option (ℤ × ℤ × ℤ)
key_figures line =
    then (taken line) (λ stamp. then (taken stamp.1) (λ sensor. option_map (λ count. (stamp.0, sensor.0, count)) (numeral sensor.1)))

abbrev pub key_as : Option (ℤ × ℤ × ℤ) → Result EntryKey LineFault
key_as None = Err Malformed
key_as (Some f) = judged (keyed (unsigned f.0) (unsigned f.1) (unsigned f.2))

-- what a line of text reads as: a key's numbers, or why it is none
abbrev pub key_read : List ℕ → Result EntryKey LineFault
key_read line = key_as (key_figures line)
