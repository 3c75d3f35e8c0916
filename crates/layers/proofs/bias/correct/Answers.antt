use Rattle.std.proofs.Common.{◌≡◌, ℤ, Ok, Err, Result, ap, ◌∙◌, arith, w32, w64, to_z, of_z}
use Rattle.std.specs.Result.{result_unwrap_or}
use Rattle.std.proofs.lemmas.Int.{ints}
use Rattle.reading.proofs.Ranging.{entered_ok}
use Rattle.reading.specs.Making.{entered, map_ok}
use Rattle.reading.specs.Ranges.{Ranged, value_max}
use Rattle.reading.specs.declared.Reading.{Reading}
use Rattle.reading.specs.declared.plain.Entry.{Entry}
use Rattle.reading.specs.declared.plain.Refusal.{Refusal}
use Rattle.filter.specs.Common.{limit}
use Rattle.layers.specs.Passing.{corrected}
use Rattle.layers.specs.Corrected.{corrected_ranged}
use Rattle.layers.proofs.bias.correct.Goals as goal

-- what is made of numbers in range has just those
made : (r : Result Reading Refusal) (other : Reading) (e : Entry) → Ranged e → map_ok (λ (x : Reading). x.entry) r ≡ entered e.stamp e.sensor e.number e.value e.spread → (result_unwrap_or r other).entry ≡ e
made (Ok x) other e h m = let k = entered_ok e h in cc
made (Err d) other e h m = let k = entered_ok e h in cc

same : {e e' : Entry} {v v' : ℤ} → e ≡ e' → v ≡ v' → entered e.stamp e.sensor e.number v e.spread ≡ entered e'.stamp e'.sensor e'.number v' e'.spread
same p q = cc

pub returns : goal.returns
returns c =
    let reading = c.args.reading in
    let d = c.entry-e.ensures.value in
    let z = ap (λ (e : Entry). e.value) d in
    let v : to_z w32 (of_z w32 (to_z w64 (of_z w64 c.limited-value.result))) ≡ c.limited-value.result = omega (arith, ints) in
    let w = c.limited-value.ensures.value ∙ ap (limit value_max) (omega (arith, ints)) in
    ap (λ (x : Reading). x.entry) c.unwrap_or.ensures
    ∙ made c.try_from.result reading (corrected c.args.bias reading.entry) (corrected_ranged c.args.bias reading.entry reading.ranged) (c.try_from.ensures ∙ same d (v ∙ w))
