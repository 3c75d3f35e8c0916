-- Every refusal with its number and its words.
use Rattle.std.specs.Prelude.{ℕ, List, ◌++◌, codes, decimal}
use Rattle.reading.specs.declared.plain.Refusal.{Refusal}
use Rattle.reading.specs.declared.plain.Refusal.TheVariants.{Stamp, Sensor, Number, Value, Spread, Setting, Row, CutNumber, LongNumber, LargeNumber, LongRecord, Tag, Record, Space, BelowFloor, AboveFloor, KeyLogged, LogFull, KeyNotLogged, SettleBelowFloor}

abbrev pub numbered : Refusal → ℕ
numbered Stamp = 1
numbered Sensor = 2
numbered Number = 3
numbered Value = 4
numbered Spread = 5
numbered Setting = 6
numbered Row = 7
numbered CutNumber = 8
numbered LongNumber = 9
numbered LargeNumber = 10
numbered LongRecord = 11
numbered Tag = 12
numbered Record = 13
numbered Space = 15
numbered BelowFloor = 16
numbered AboveFloor = 17
numbered KeyLogged = 18
numbered LogFull = 19
numbered KeyNotLogged = 20
numbered SettleBelowFloor = 21

abbrev pub sentence : Refusal → List ℕ
sentence Stamp = codes "the stamp is out of range"
sentence Sensor = codes "the sensor is out of range"
sentence Number = codes "the number is out of range"
sentence Value = codes "the value is out of range"
sentence Spread = codes "the spread is out of range"
sentence Setting = codes "a setting is out of range"
sentence Row = codes "the row belongs to no state of this filter"
sentence CutNumber = codes "the bytes end inside a number"
sentence LongNumber = codes "a number is not in its shortest form"
sentence LargeNumber = codes "a number is too large"
sentence LongRecord = codes "a record is longer than the rest of the journal"
sentence Tag = codes "a record has an unknown tag"
sentence Record = codes "a record's length and fields do not agree"
sentence Space = codes "the space is too small"
sentence BelowFloor = codes "the stamp is below the floor"
sentence AboveFloor = codes "the stamp is too far above the floor"
sentence KeyLogged = codes "the key is already logged"
sentence LogFull = codes "the log is full"
sentence KeyNotLogged = codes "the key is not logged"
sentence SettleBelowFloor = codes "the floor does not move backwards"

-- what a refusal prints, as `refusal 16: the stamp is below the floor`
abbrev pub printed : Refusal → List ℕ
printed r = codes "refusal " ++ (decimal (numbered r) ++ (codes ": " ++ sentence r))
