-- The test of the ranges and what making a reading answers.
use Rattle.std.proofs.Common.{◌≡◌, true, false, is_ok, Ok, Err, sym, ap, ◌∙◌, arith}
use Rattle.std.proofs.lemmas.Bool.Decides.{nat_tests}
use Rattle.reading.specs.declared.plain.Entry.{Entry}
use Rattle.reading.specs.declared.plain.Refusal.{Refusal}
use Rattle.reading.specs.Making.{entered}
use Rattle.reading.specs.Ranges.{Ranged, ranged}

pub from_ranged : (e : Entry) → ranged e ≡ true → Ranged e
unfolding ranged
from_ranged e h = (grind (arith, nat_tests), grind (arith, nat_tests), grind (arith, nat_tests), grind (arith, nat_tests), grind (arith, nat_tests))

pub to_ranged : (e : Entry) → Ranged e → ranged e ≡ true
unfolding ranged
to_ranged e r = grind (arith, nat_tests)

-- making a reading of numbers in range gives just those, and of others a refusal
pub entered_ok : (e : Entry) → Ranged e → entered e.stamp e.sensor e.number e.value e.spread ≡ Ok e
entered_ok e r = grind (arith, nat_tests)

pub entered_is_ok : (e : Entry) → is_ok (entered e.stamp e.sensor e.number e.value e.spread) ≡ ranged e
unfolding ranged
entered_is_ok e = grind (arith, nat_tests)

pub ranged_from_ok : (e x : Entry) → Ok x ≡ entered e.stamp e.sensor e.number e.value e.spread → (ranged e ≡ true) × (x ≡ e)
ranged_from_ok e x h =
    let r : ranged e ≡ true = sym (entered_is_ok e) ∙ ap is_ok (sym h) in
    let k = entered_ok e (from_ranged e r) in
    (r, cc)

pub not_ranged_from_err : (e : Entry) (d : Refusal) → Err d ≡ entered e.stamp e.sensor e.number e.value e.spread → ranged e ≡ false
not_ranged_from_err e d h = sym (entered_is_ok e) ∙ ap is_ok (sym h)
