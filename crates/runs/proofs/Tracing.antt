-- The ledger's own law.
use Rattle.std.proofs.Common.{◌≡◌, true, false, cond, List, [], ◌∷◌, is_ok, Some, None, fold, sym, refl, ap, ◌∙◌, ⊎_elim, arith}
use Rattle.std.specs.List.{AllByRecursion as All}
use Rattle.std.proofs.lemmas.Bool.{cond_both, cases_Bool, cond-true, cond-false}
use Rattle.std.proofs.lemmas.Bool.Decides.{nat_tests}
use Rattle.reading.proofs.KeyOrders.{same_is}
use Rattle.reading.specs.Order.{precedes, same}
use Rattle.reading.specs.Ranges.{key_of}
use Rattle.reading.specs.declared.plain.Entry.{Entry}
use Rattle.reading.specs.declared.plain.EntryKey.{EntryKey}
use Rattle.ordered.proofs.Rising.{Rising, from_rising}
use Rattle.ordered.specs.Ordered.{rising, held, inserted, without, revised}
use Rattle.runs.specs.Ledger.{Ledger, blank, current, said, entered, noted, sayings}
use Rattle.runs.specs.Tracing.{reading_of, turned, traced, LedgerLaw}
use Rattle.runs.specs.declared.plain.Call.{Call}
use Rattle.runs.specs.declared.plain.Call.TheVariants.{Offer, Withdraw, Revise, Settle}
use Rattle.runs.proofs.Floored.{held_from}
use Rattle.runs.proofs.Telling.{offer_order, withdraw_order, revise_order, withdraw_passed}

-- of two keys in order at most one is a given key
one_only : (a b k : EntryKey) → precedes a b ≡ true → same a k ≡ true → same b k ≡ false
unfolding precedes same
one_only a b k h s = grind (arith, nat_tests)

left_same : (a b k : EntryKey) → same a b ≡ true → same a k ≡ same b k
left_same a b k h = ap (λ q. same q k) (same_is a b h)

right_same : (a b k : EntryKey) → same b k ≡ true → same a k ≡ same a b
right_same a b k h = ap (same a) (sym (same_is b k h))

reading_inserted : (k : EntryKey) (e : Entry) (xs : List Entry) → reading_of k (inserted e xs) ≡ cond (same (key_of e) k) (Some e) (reading_of k xs)
reading_inserted k e [] = refl
reading_inserted k e (x ∷ xs) =
    let ih = reading_inserted k e xs in
    let n = one_only (key_of x) (key_of e) k in
    grind (arith, nat_tests)

none_there : (k : EntryKey) (x : Entry) (xs : List Entry) → All (λ y. precedes (key_of x) (key_of y) ≡ true) xs → same (key_of x) k ≡ true → reading_of k xs ≡ None
none_there k x [] a h = refl
none_there k x (y ∷ ys) a h =
    let ih = none_there k x ys a.1 h in
    let n = one_only (key_of x) (key_of y) k a.0 h in
    grind (arith, nat_tests)

reading_without : (k j : EntryKey) (xs : List Entry) → Rising xs → reading_of k (without j xs) ≡ cond (same j k) None (reading_of k xs)
reading_without k j [] r = grind (arith, nat_tests)
reading_without k j (x ∷ xs) r =
    let ih = reading_without k j xs r.1 in
    let l = left_same (key_of x) j k in
    let m = right_same (key_of x) j k in
    let n = none_there k x xs r.0 in
    grind (arith, nat_tests)

reading_revised : (k : EntryKey) (e : Entry) (xs : List Entry) → held (key_of e) xs ≡ true → reading_of k (revised e xs) ≡ cond (same (key_of e) k) (Some e) (reading_of k xs)
reading_revised k e [] h = grind (arith, nat_tests)
reading_revised k e (x ∷ xs) h =
    let ih = reading_revised k e xs in
    let l = left_same (key_of x) (key_of e) k in
    let m = right_same (key_of x) (key_of e) k in
    grind (arith, nat_tests)

reading_entered : (k : EntryKey) (b : Ledger) (c : Call) → rising b.standing ≡ true → is_ok (said b c) ≡ true → reading_of k (entered b c).standing ≡ turned k c (reading_of k b.standing)
reading_entered k b (Offer r) up took = reading_inserted k r.entry b.standing
reading_entered k b (Withdraw j) up took = reading_without k j.key b.standing (from_rising b.standing up)
reading_entered k b (Revise r) up took =
    let p = withdraw_passed b.floor (current b) (key_of r.entry) took in
    reading_revised k r.entry b.standing (sym (held_from b.floor (key_of r.entry) b.standing p.0) ∙ p.1)
reading_entered k b (Settle s) up took = refl

reading_noted : (k : EntryKey) (b : Ledger) (c : Call) → rising b.standing ≡ true → reading_of k (noted b c).standing ≡ cond (is_ok (said b c)) (turned k c (reading_of k b.standing)) (reading_of k b.standing)
reading_noted k b c up =
    ⊎_elim
    (λ (t : is_ok (said b c) ≡ true). ap (λ q. reading_of k q.standing) (cond-true (is_ok (said b c)) (entered b c) b t) ∙ reading_entered k b c up t ∙ sym (cond-true (is_ok (said b c)) (turned k c (reading_of k b.standing)) (reading_of k b.standing) t))
    (λ (t : is_ok (said b c) ≡ false). ap (λ q. reading_of k q.standing) (cond-false (is_ok (said b c)) (entered b c) b t) ∙ sym (cond-false (is_ok (said b c)) (turned k c (reading_of k b.standing)) (reading_of k b.standing) t))
    (cases_Bool (is_ok (said b c)))

rises_entered : (b : Ledger) (c : Call) → rising b.standing ≡ true → is_ok (said b c) ≡ true → rising (entered b c).standing ≡ true
rises_entered b (Offer r) up took = offer_order b r.entry up took
rises_entered b (Withdraw k) up took = withdraw_order b k.key up
rises_entered b (Revise r) up took = revise_order b r.entry up
rises_entered b (Settle s) up took = up

rises_noted : (b : Ledger) (c : Call) → rising b.standing ≡ true → rising (noted b c).standing ≡ true
rises_noted b c up = cond_both (is_ok (said b c)) (entered b c) b (λ q. rising q.standing ≡ true) (rises_entered b c up) (λ _. up)

rises_all : (b : Ledger) (calls : List Call) → rising b.standing ≡ true → rising (fold noted b calls).standing ≡ true
rises_all b [] up = up
rises_all b (c ∷ cs) up = rises_all (noted b c) cs (rises_noted b c up)

holds_all : (k : EntryKey) (b : Ledger) (calls : List Call) → rising b.standing ≡ true → reading_of k (fold noted b calls).standing ≡ traced k (reading_of k b.standing) calls (sayings b calls)
holds_all k b [] up = refl
holds_all k b (c ∷ cs) up = holds_all k (noted b c) cs (rises_noted b c up) ∙ ap (λ q. traced k q cs (sayings (noted b c) cs)) (reading_noted k b c up)

pub ledger_law : LedgerLaw
ledger_law = record { rises = λ calls. rises_all blank calls refl; holds = λ k calls. holds_all k blank calls refl }
