-- No two refusals have one number.
use Rattle.std.proofs.Common.{◌≡◌, ℕ, [], ◌∷◌, get_or, sym, refl, ap, ◌∙◌}
use Rattle.reading.specs.Refusals.{numbered}
use Rattle.reading.specs.declared.plain.Refusal.{Refusal}
use Rattle.reading.specs.declared.plain.Refusal.TheVariants.{Stamp, Sensor, Number, Value, Spread, Setting, Row, CutNumber, LongNumber, LargeNumber, LongRecord, Tag, Record, Space, BelowFloor, AboveFloor, KeyLogged, LogFull, KeyNotLogged, SettleBelowFloor}

-- the refusal of a number; what is no refusal's number is passed over by the first
abbrev called : ℕ → Refusal
called n =
    get_or (Stamp ∷ Stamp ∷ Sensor ∷ Number ∷ Value ∷ Spread ∷ Setting ∷ Row ∷ CutNumber ∷ LongNumber ∷ LargeNumber ∷ LongRecord ∷ Tag ∷ Record ∷ Stamp ∷ Space ∷ BelowFloor ∷ AboveFloor ∷ KeyLogged ∷ LogFull ∷ KeyNotLogged ∷ SettleBelowFloor ∷ []) n Stamp

called_numbered : (r : Refusal) → called (numbered r) ≡ r
called_numbered Stamp = refl
called_numbered Sensor = refl
called_numbered Number = refl
called_numbered Value = refl
called_numbered Spread = refl
called_numbered Setting = refl
called_numbered Row = refl
called_numbered CutNumber = refl
called_numbered LongNumber = refl
called_numbered LargeNumber = refl
called_numbered LongRecord = refl
called_numbered Tag = refl
called_numbered Record = refl
called_numbered Space = refl
called_numbered BelowFloor = refl
called_numbered AboveFloor = refl
called_numbered KeyLogged = refl
called_numbered LogFull = refl
called_numbered KeyNotLogged = refl
called_numbered SettleBelowFloor = refl

pub numbered_apart : (a b : Refusal) → numbered a ≡ numbered b → a ≡ b
numbered_apart a b h = sym (called_numbered a) ∙ ap called h ∙ called_numbered b
