-- A gate of 5 over a tracker of gains 512 and 128, worked by hand.
use Rattle.std.specs.Prelude.{ℕ, Bool, [], ◌∷◌, ℤ, pos, fold, Option}
use Rattle.std.proofs.Common.{lit≤}
use Rattle.reading.specs.declared.plain.Entry.{Entry}
use Rattle.tracker.specs.Tracking.{tracked, begun, forecasted}
use Rattle.tracker.specs.declared.gains.Gains.{Gains}
use Rattle.tracker.specs.declared.plain.TrackerState.{TrackerState}
use Rattle.layers.specs.Passing.{passes}

abbrev gains : Gains
gains = record { a = 512; b = 128; ranged = (lit≤ tt, lit≤ tt) }

abbrev at : ℕ → ℤ → Entry
at stamp value = record { stamp = stamp; sensor = 0; number = 0; value = value; spread = 0 }

abbrev after : TrackerState
after = fold (tracked gains) begun (at 100 (pos 10) ∷ at 105 (pos 12) ∷ [])

-- the forecast at 110, and whether 16 and 17 pass a gate of 5 there
abbrev pub worked : Option ℤ × Bool × Bool
worked = (forecasted after 110, passes 5 (forecasted after 110) (pos 16), passes 5 (forecasted after 110) (pos 17))
