-- What a tracker knows, and what a reading makes of it.
use Rattle.std.specs.Prelude.{◌≡◌, ℕ, ◌*◌, ◌≤◌, min, max, cond, List, [], ◌∷◌, ℤ, pos, ◌+ℤ◌, ◌-ℤ◌, ◌*ℤ◌, Some, None, Option, is_some, option_map, unwrap_or, unsigned_abs}
use Rattle.reading.specs.Ranges.{stamp_max}
use Rattle.reading.specs.declared.plain.Entry.{Entry}
use Rattle.filter.specs.Common.{elapsed, latest, limit, floor_div, padded}
use Rattle.tracker.specs.Ranges.{scale, span_max, x_max, u_max}
use Rattle.tracker.specs.declared.gains.Gains.{Gains}
use Rattle.tracker.specs.declared.plain.TrackerState.{TrackerState}
use Rattle.tracker.specs.declared.plain.Track.{Track}

-- the ticks for which a speed is held
abbrev pub span : ℕ → ℕ → ℕ
span last stamp = min (elapsed last stamp) span_max

-- where the position has come after d ticks, at the speed known
abbrev pub ahead : Track → ℕ → ℤ
ahead t d = limit x_max (t.x +ℤ t.u *ℤ pos d)

-- a value in parts
abbrev pub scaled : ℤ → ℤ
scaled value = value *ℤ pos scale

-- by how much a position misses a value
abbrev pub missed : ℤ → ℤ → ℤ
missed value p = scaled value -ℤ p

-- ⌊z × gain / n⌋
unfoldable pub part : ℤ → ℕ → ℕ → ℤ
part z gain n = floor_div (z *ℤ pos gain) n

-- a position p after a miss by r
abbrev pub moved : ℕ → ℤ → ℤ → ℤ
moved a p r = p +ℤ part r a scale

-- a speed u, held for d ticks, after a miss by r
abbrev pub turned : ℕ → ℤ → ℤ → ℕ → ℤ
turned b u r d = limit u_max (u +ℤ part r b (scale * max d 1))

-- the track that a first value begins
abbrev pub first : ℤ → Track
first value = record { x = scaled value; u = pos 0 }

-- the track that a later value corrects, after d ticks
abbrev pub later : Gains → Track → ℕ → ℤ → Track
later c t d value =
    let p = ahead t d in
    let r = missed value p in
    record { x = moved c.a p r; u = turned c.b t.u r d }

-- the track after a value: a first one where there was none
abbrev pub followed : Gains → Option Track → ℕ → ℤ → Track
followed c None d value = first value
followed c (Some t) d value = later c t d value

-- a step
abbrev pub tracked : Gains → TrackerState → Entry → TrackerState
tracked c s e = record { last = latest s.last e.stamp; track = Some (followed c s.track (span s.last e.stamp) e.value) }

-- the value expected at a stamp; none where there is no track
abbrev pub forecasted : TrackerState → ℕ → Option ℤ
forecasted s stamp = option_map (λ t. floor_div (ahead t (span s.last stamp)) scale) s.track

-- the first state
abbrev pub begun : TrackerState
begun = record { last = 0; track = None }

-- what is shown: 0 for both numbers where there is no track
abbrev pub track : TrackerState → Track
track s = unwrap_or s.track (record { x = pos 0; u = pos 0 })

abbrev pub Possible : TrackerState → Type 0
Possible s =
    (s.last ≤ stamp_max)
    × (unsigned_abs (track s).x ≤ x_max)
    × (unsigned_abs (track s).u ≤ u_max)
    × (s.track ≡ None → s ≡ begun)

abbrev pub row : TrackerState → List ℤ
row s = padded (pos 3 ∷ pos s.last ∷ cond (is_some s.track) (pos 1) (pos 0) ∷ (track s).x ∷ (track s).u ∷ [])
