-- A call and its numbers are answered alike, and leave one ledger.
use Rattle.std.proofs.Common.{◌≡◌, refl}
use Rattle.runs.specs.Ledger.{Ledger, plain, said, noted, heard, heeded}
use Rattle.runs.specs.declared.plain.Call.{Call}
use Rattle.runs.specs.declared.plain.Call.TheVariants.{Offer, Withdraw, Revise, Settle}

pub heard_plain : (b : Ledger) (c : Call) → heard b (plain c) ≡ said b c
heard_plain b (Offer r) = refl
heard_plain b (Withdraw k) = refl
heard_plain b (Revise r) = refl
heard_plain b (Settle s) = refl

pub heeded_plain : (b : Ledger) (c : Call) → heeded b (plain c) ≡ noted b c
heeded_plain b (Offer r) = refl
heeded_plain b (Withdraw k) = refl
heeded_plain b (Revise r) = refl
heeded_plain b (Settle s) = refl
