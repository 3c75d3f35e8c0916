-- What restoring a row means.
use Rattle.std.specs.Prelude.{◌≡◌, List, ℤ, Ok, Err, Result, ◌≢◌}
use Rattle.reading.specs.declared.plain.Refusal.{Refusal}
use Rattle.reading.specs.declared.plain.Refusal.TheVariants.{Row}

-- the state after is a possible one and has that row; or no possible state has it, and the answer says so
abbrev pub Restored : {S U : Type 0} → (S → Type 0) → (S → List ℤ) → List ℤ → S → Result U Refusal → Type 0
Restored possible rowed row after (Ok u) = possible after × (rowed after ≡ row)
Restored {S} possible rowed row after (Err e) = (e ≡ Row) × ((s : S) → possible s → rowed s ≢ row)

-- the state of a row: a possible one that has it; or no possible state has it, and the answer says so
abbrev pub Found : {S : Type 0} → (S → Type 0) → (S → List ℤ) → List ℤ → Result S Refusal → Type 0
Found possible rowed row (Ok s) = possible s × (rowed s ≡ row)
Found {S} possible rowed row (Err e) = (e ≡ Row) × ((s : S) → possible s → rowed s ≢ row)
