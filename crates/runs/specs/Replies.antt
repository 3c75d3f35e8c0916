-- What an engine answers to calls and questions, by its filter's settings and start state and its ledger.
use Rattle.std.specs.Prelude.{List, [], ◌∷◌, length, fold}
use Rattle.std.specs.List.{slice_get}
use Rattle.filter.specs.declared.Filter.{Ghosts}
use Rattle.runs.specs.Ledger.{Ledger, current, said, noted}
use Rattle.runs.specs.declared.plain.Answer.{Answer}
use Rattle.runs.specs.declared.plain.Answer.TheVariants.{Made, Estimated, FloorIs, LengthIs, EntryIs}
use Rattle.runs.specs.declared.plain.Request.{Request}
use Rattle.runs.specs.declared.plain.Request.TheVariants.{Make, Estimate, Floor, Length, EntryAt}

abbrev pub replied : {F C S E : Type 0} → Ghosts F C S E → C → S → Ledger → Request → Answer E
replied f own start b (Make c) = Made (said b c)
replied f own start b Estimate = Estimated (f.shown (fold (f.stepped own) start b.standing))
replied f own start b Floor = FloorIs b.floor
replied f own start b Length = LengthIs (length (current b))
replied f own start b (EntryAt i) = EntryIs (slice_get (current b) i)

-- a question leaves the ledger as it is
abbrev pub asked : Ledger → Request → Ledger
asked b (Make c) = noted b c
asked b Estimate = b
asked b Floor = b
asked b Length = b
asked b (EntryAt i) = b

abbrev pub replies : {F C S E : Type 0} → Ghosts F C S E → C → S → Ledger → List Request → List (Answer E)
replies f own start b [] = []
replies f own start b (q ∷ qs) = replied f own start b q ∷ replies f own start (asked b q) qs
