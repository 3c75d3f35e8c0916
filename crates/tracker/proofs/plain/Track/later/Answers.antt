use Rattle.std.proofs.Common.{◌≡◌, ℕ, ℤ, ap, arith}
use Rattle.std.proofs.lemmas.Int.{ints}
use Rattle.tracker.specs.Tracking.{moved, turned}
use Rattle.tracker.specs.declared.plain.Track.{Track}
use Rattle.tracker.proofs.plain.Track.later.Goals as goal

same : (a b d : ℕ) {x x' u u' p p' r r' v v' : ℤ} → x ≡ x' → x' ≡ moved a p r → u ≡ u' → u' ≡ turned b v r d → p ≡ p' → r ≡ r' → v ≡ v' → ◌≡◌ {A = Track} (record { x = x; u = u }) (record { x = moved a p' r'; u = turned b v' r' d })
same a b d x x' u u' p r v = cc

pub returns : goal.returns
returns c =
    let v = ap (λ e. e.value) c.entry.ensures.value in
    let p = c.ahead-p.ensures.value in
    same c.args.gains.a c.args.gains.b c.args.d (omega (arith, ints)) c.shift.ensures (omega (arith, ints)) c.turn.ensures (omega (arith, ints)) (omega (arith, ints)) (omega (arith, ints))
