-- A step leads from a possible state to a possible one.
use Rattle.std.specs.Prelude.{ℕ, ◌≤◌, ℤ, ◌+ℤ◌, Some, None, Option, unsigned_abs}
use Rattle.std.proofs.Common.{arith, lit<}
use Rattle.std.proofs.lemmas.Int.{ints}
use Rattle.reading.specs.Ranges.{Ranged, value_max}
use Rattle.reading.specs.declared.plain.Entry.{Entry}
use Rattle.filter.proofs.Limits.{limit_within}
use Rattle.tracker.specs.Products.{part_between}
use Rattle.tracker.specs.Ranges.{scale, x_max, u_max}
use Rattle.tracker.specs.Tracking.{span, moved, followed, tracked, Possible}
use Rattle.tracker.specs.declared.gains.Gains.{Gains}
use Rattle.tracker.specs.declared.plain.Track.{Track}
use Rattle.tracker.specs.declared.plain.TrackerState.{TrackerState}

-- a position that moves towards another stays between them
pub moved_within : (a : ℕ) (p r : ℤ) → a ≤ scale → unsigned_abs p ≤ x_max → unsigned_abs (p +ℤ r) ≤ x_max → unsigned_abs (moved a p r) ≤ x_max
moved_within a p r h k l = omega (arith, ints, part_between r a scale h (lit< tt))

followed_possible : (c : Gains) (t : Option Track) (d : ℕ) (value : ℤ) → unsigned_abs value ≤ value_max → (unsigned_abs (followed c t d value).x ≤ x_max) × (unsigned_abs (followed c t d value).u ≤ u_max)
followed_possible c None d value h = (omega (arith, ints), omega arith)
followed_possible c (Some t) d value h = (moved_within c.a _ _ c.ranged.0 (limit_within _ _) (omega (arith, ints)), limit_within _ _)

pub tracked_possible : (c : Gains) (s : TrackerState) (e : Entry) → Ranged e → Possible s → Possible (tracked c s e)
tracked_possible c s e r p =
    let f = followed_possible c s.track (span s.last e.stamp) e.value r.3 in
    (omega arith, f.0, f.1, λ h. cc)
