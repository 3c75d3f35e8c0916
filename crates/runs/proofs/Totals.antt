-- Nothing is lost, call by call and over a run.
use Rattle.std.proofs.Common.{◌≡◌, ℕ, ◌+◌, ◌<◌, ◌≤◌, cond, not, leb, List, [], ◌∷◌, ◌++◌, length, get_or, take, is_ok, Ok, Err, fold, Result, sym, refl, ap, ◌∙◌, arith}
use Rattle.std.proofs.lemmas.List.Filters.{length-filter_both}
use Rattle.std.proofs.lemmas.List.{take_more, length-take-le}
use Rattle.std.proofs.lemmas.Bool.Decides.{nat_tests}
use Rattle.reading.specs.Ranges.{key_of}
use Rattle.reading.specs.declared.plain.Entry.{Entry}
use Rattle.reading.specs.declared.plain.Refusal.{Refusal}
use Rattle.ordered.proofs.Inserting.{length_inserted}
use Rattle.ordered.proofs.Removing.{length_without}
use Rattle.ordered.proofs.Revising.{length_revised}
use Rattle.ordered.specs.Ordered.{below}
use Rattle.engine.specs.Answers.{settle_answer}
use Rattle.runs.specs.Ledger.{Ledger, blank, current, said, entered, noted, sayings}
use Rattle.runs.specs.Totals.{offers, withdrawals, settles, total}
use Rattle.runs.specs.declared.plain.Call.{Call}
use Rattle.runs.specs.declared.plain.Call.TheVariants.{Offer, Withdraw, Revise, Settle}
use Rattle.runs.proofs.Floored.{from_inserted, from_without, from_revised, from_from}
use Rattle.runs.proofs.Telling.{offer_passed, withdraw_passed, settle_passed}

settle_says : (f : ℕ) (log : List Entry) (s n : ℕ) → settle_answer f log s ≡ Ok n → n ≡ length (below s log)
settle_says f log s n h = grind (arith, nat_tests)

one : (b : Ledger) (c : Call) (a : Result ℕ Refusal) → said b c ≡ a
    → length (current b) + offers c a ≡ withdrawals c a + settles c a + length (current (cond (is_ok a) (entered b c) b))
one b (Offer r) (Err e) h = omega arith
one b (Withdraw k) (Err e) h = omega arith
one b (Revise r) (Err e) h = omega arith
one b (Settle s) (Err e) h = omega arith
one b (Offer r) (Ok n) h =
    let p = offer_passed b.floor (current b) r.entry (ap is_ok h) in
    omega (arith, length_inserted r.entry (current b), ap length (from_inserted b.floor r.entry b.standing p.0))
one b (Withdraw k) (Ok n) h =
    let p = withdraw_passed b.floor (current b) k.key (ap is_ok h) in
    omega (arith, length_without k.key (current b) p.1, ap length (from_without b.floor k.key b.standing p.0))
one b (Revise r) (Ok n) h =
    let p = withdraw_passed b.floor (current b) (key_of r.entry) (ap is_ok h) in
    omega (arith, length_revised r.entry (current b), ap length (from_revised b.floor r.entry b.standing p.0))
one b (Settle s) (Ok n) h =
    let p = settle_passed b.floor (current b) s (ap is_ok h) in
    omega (arith, length-filter_both (λ x. leb s x.stamp) (λ x. not (leb s x.stamp)) (λ _. refl) (current b), settle_says b.floor (current b) s n h, ap length (from_from b.floor s b.standing p))

pub adds_up : (calls : List Call) (b : Ledger)
    → length (current b) + total offers calls (sayings b calls) ≡ total withdrawals calls (sayings b calls) + total settles calls (sayings b calls) + length (current (fold noted b calls))
adds_up [] b = omega arith
adds_up (c ∷ cs) b = omega (arith, one b c (said b c) refl, adds_up cs (noted b c))

pub offers_few : (calls : List Call) (b : Ledger) → total offers calls (sayings b calls) ≤ length calls
offers_few [] b = omega arith
offers_few (c ∷ cs) b = omega (arith, at_most c (said b c), offers_few cs (noted b c))
  where
    at_most : (c : Call) (a : Result ℕ Refusal) → offers c a ≤ 1
    at_most (Offer r) (Ok n) = omega arith
    at_most (Offer r) (Err e) = omega arith
    at_most (Withdraw k) a = omega arith
    at_most (Revise r) a = omega arith
    at_most (Settle s) a = omega arith

total_push : (f : Call → Result ℕ Refusal → ℕ) (b : Ledger) (xs : List Call) (c : Call)
    → total f (xs ++ c ∷ []) (sayings b (xs ++ c ∷ [])) ≡ total f xs (sayings b xs) + f c (said (fold noted b xs) c)
total_push f b [] c = omega arith
total_push f b (x ∷ xs) c = omega (arith, total_push f (noted b x) xs c)

pub total_more : (f : Call → Result ℕ Refusal → ℕ) (b : Ledger) (calls : List Call) (i : ℕ) (d : Call) → i < length calls
    → total f (take (i + 1) calls) (sayings b (take (i + 1) calls)) ≡ total f (take i calls) (sayings b (take i calls)) + f (get_or calls i d) (said (fold noted b (take i calls)) (get_or calls i d))
total_more f b calls i d h = ap (λ xs. total f xs (sayings b xs)) (take_more calls i d h) ∙ total_push f b (take i calls) (get_or calls i d)

-- the tally after one more call
pub counts_more : (f : Call → Result ℕ Refusal → ℕ) (b : Ledger) (calls : List Call) (i : ℕ) (c : Call) (a : Result ℕ Refusal) → i < length calls
    → c ≡ get_or calls i c → a ≡ said (fold noted b (take i calls)) c
    → total f (take i calls) (sayings b (take i calls)) + f c a ≡ total f (take (i + 1) calls) (sayings b (take (i + 1) calls))
counts_more f b calls i c a h is says =
    let done = take i calls in
    ap (λ q. total f done (sayings b done) + q) (ap (f c) says ∙ ap (λ q. f q (said (fold noted b done) q)) is) ∙ sym (total_more f b calls i c h)

-- no more is counted than there are calls
pub few : (calls : List Call) (i : ℕ) → i + 1 ≤ length calls
    → (total offers (take (i + 1) calls) (sayings blank (take (i + 1) calls)) ≤ i + 1)
    × (total withdrawals (take (i + 1) calls) (sayings blank (take (i + 1) calls)) ≤ i + 1)
    × (total settles (take (i + 1) calls) (sayings blank (take (i + 1) calls)) ≤ i + 1)
few calls i h =
    let n = length-take-le (i + 1) calls h in
    let o = offers_few (take (i + 1) calls) blank in
    let s = adds_up (take (i + 1) calls) blank in
    (omega arith, omega arith, omega arith)
