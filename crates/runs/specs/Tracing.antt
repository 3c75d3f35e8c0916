-- The ledger's own law: which readings stand in it.
use Rattle.std.specs.Prelude.{◌≡◌, ℕ, true, cond, List, [], ◌∷◌, is_ok, Some, None, Option, Result}
use Rattle.reading.specs.Order.{same}
use Rattle.reading.specs.Ranges.{key_of}
use Rattle.reading.specs.declared.plain.Entry.{Entry}
use Rattle.reading.specs.declared.plain.EntryKey.{EntryKey}
use Rattle.reading.specs.declared.plain.Refusal.{Refusal}
use Rattle.ordered.specs.Ordered.{rising}
use Rattle.runs.specs.Ledger.{ledger_of, blank, sayings}
use Rattle.runs.specs.declared.plain.Call.{Call}
use Rattle.runs.specs.declared.plain.Call.TheVariants.{Offer, Withdraw, Revise, Settle}

-- the reading of a key, if it is there
abbrev pub reading_of : EntryKey → List Entry → Option Entry
reading_of k [] = None
reading_of k (x ∷ xs) = cond (same (key_of x) k) (Some x) (reading_of k xs)

-- what an accepted call makes of the reading of a key
abbrev pub turned : EntryKey → Call → Option Entry → Option Entry
turned k (Offer r) was = cond (same (key_of r.entry) k) (Some r.entry) was
turned k (Withdraw j) was = cond (same j.key k) None was
turned k (Revise r) was = cond (same (key_of r.entry) k) (Some r.entry) was
turned k (Settle s) was = was

-- what calls with these answers made of it at last
abbrev pub traced : EntryKey → Option Entry → List Call → List (Result ℕ Refusal) → Option Entry
traced k was [] as' = was
traced k was (c ∷ cs) [] = was
traced k was (c ∷ cs) (a ∷ as') = traced k (cond (is_ok a) (turned k c was) was) cs as'

-- the standing readings rise strictly by key, and are just those offered, not withdrawn, at their last revision
pub record LedgerLaw : Type 0 where
  pub rises : (calls : List Call) → rising (ledger_of calls).standing ≡ true
  pub holds : (k : EntryKey) (calls : List Call) → reading_of k (ledger_of calls).standing ≡ traced k None calls (sayings blank calls)
