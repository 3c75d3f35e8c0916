use Rattle.std.proofs.Common.{◌≡◌, ℕ, cond, ℤ, pos, Some, None, Option, is_some, unwrap_or, arith}
use Rattle.std.proofs.lemmas.Int.{ints, clamps}
use Rattle.filter.specs.Common.{limit}
use Rattle.filter.proofs.Rows.{place}
use Rattle.tracker.specs.declared.plain.Track.{Track}
use Rattle.tracker.specs.declared.plain.TrackerState.{TrackerState}
use Rattle.tracker.proofs.rows.TrackerStateRowState.nearest.Goals as goal

same_track : {x x' u u' : ℤ} → x ≡ x' → u ≡ u' → ◌≡◌ {A = Track} (record { x = x; u = u }) (record { x = x'; u = u' })
same_track a b = cc

same : {l l' : ℕ} (x u : ℤ) (t : Option Track) → l ≡ l' → cond (is_some t) (pos 1) (pos 0) ≡ pos 1 → x ≡ (unwrap_or t (record { x = pos 0; u = pos 0 })).x → u ≡ (unwrap_or t (record { x = pos 0; u = pos 0 })).u → ◌≡◌ {A = TrackerState} (record { last = l; track = Some (record { x = x; u = u }) }) (record { last = l'; track = t })
same x u None p q a b = grind arith
same x u (Some t) p q a b = let e : ◌≡◌ {A = Track} (record { x = x; u = u }) t = same_track a b in cc

pub returns-clause-back : goal.returns-clause-back
unfolding limit
returns-clause-back c = λ s p e.
    let x : c.limited.result ≡ (unwrap_or s.track (record { x = pos 0; u = pos 0 })).x = omega (arith, ints, clamps, place 3 e) in
    let u : c.limited-2.result ≡ (unwrap_or s.track (record { x = pos 0; u = pos 0 })).u = omega (arith, ints, clamps, place 4 e) in
    same _ _ s.track (omega (arith, ints, clamps, place 1 e)) (let q = place 2 e in omega (arith, ints)) (omega (arith, ints)) (omega (arith, ints))
