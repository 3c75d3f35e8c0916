-- Bytes put into a space.
use Rattle.std.specs.Prelude.{ℕ, ◌+◌, List, ◌++◌, length, take, drop, Ok, Err, Result, nat_lt}
use Rattle.reading.specs.declared.plain.Refusal.{Refusal}
use Rattle.reading.specs.declared.plain.Refusal.TheVariants.{Space}
use Rattle.reading.specs.Making.{refuse}

-- the place behind bytes that are put into a space at a place, or the refusal where they do not fit
abbrev pub placed : List ℕ → ℕ → List ℕ → Result ℕ Refusal
placed space at bytes = refuse (nat_lt (length space) (at + length bytes)) Space (Ok (at + length bytes))

-- a space with bytes put in at a place
abbrev pub written : List ℕ → ℕ → List ℕ → List ℕ
written space at bytes = take at space ++ (bytes ++ drop (at + length bytes) space)

-- a space after an answer: refusing writes nothing
abbrev pub afterwards : {A : Type 0} → Result A Refusal → List ℕ → ℕ → List ℕ → List ℕ
afterwards (Ok x) space at bytes = written space at bytes
afterwards (Err e) space at bytes = space
