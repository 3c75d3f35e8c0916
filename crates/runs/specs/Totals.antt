-- What the calls of a run add up to, by what they were answered.
use Rattle.std.specs.Prelude.{ℕ, ◌+◌, List, [], ◌∷◌, Ok, Err, Result}
use Rattle.reading.specs.declared.plain.Refusal.{Refusal}
use Rattle.runs.specs.declared.plain.Call.{Call}
use Rattle.runs.specs.declared.plain.Call.TheVariants.{Offer, Withdraw, Revise, Settle}

-- an accepted offer
abbrev pub offers : Call → Result ℕ Refusal → ℕ
offers (Offer r) (Ok n) = 1
offers (Offer r) (Err e) = 0
offers (Withdraw k) a = 0
offers (Revise r) a = 0
offers (Settle s) a = 0

-- an accepted withdrawal
abbrev pub withdrawals : Call → Result ℕ Refusal → ℕ
withdrawals (Offer r) a = 0
withdrawals (Withdraw k) (Ok n) = 1
withdrawals (Withdraw k) (Err e) = 0
withdrawals (Revise r) a = 0
withdrawals (Settle s) a = 0

-- the readings that an accepted settle says it dropped
abbrev pub settles : Call → Result ℕ Refusal → ℕ
settles (Offer r) a = 0
settles (Withdraw k) a = 0
settles (Revise r) a = 0
settles (Settle s) (Ok n) = n
settles (Settle s) (Err e) = 0

abbrev pub total : (Call → Result ℕ Refusal → ℕ) → List Call → List (Result ℕ Refusal) → ℕ
total f [] as' = 0
total f (c ∷ cs) [] = 0
total f (c ∷ cs) (a ∷ as') = f c a + total f cs as'
