-- Trackers of gains 512 and 128, worked by hand.
use Rattle.std.specs.Prelude.{ℕ, List, [], ◌∷◌, ℤ, pos, negsuc, fold}
use Rattle.std.proofs.Common.{lit≤}
use Rattle.reading.specs.declared.plain.Entry.{Entry}
use Rattle.tracker.specs.declared.gains.Gains.{Gains}
use Rattle.tracker.specs.declared.plain.Track.{Track}
use Rattle.tracker.specs.Tracking.{tracked, begun, track}

abbrev gains : Gains
gains = record { a = 512; b = 128; ranged = (lit≤ tt, lit≤ tt) }

-- a value at a stamp
abbrev at : ℕ → ℤ → Entry
at stamp value = record { stamp = stamp; sensor = 0; number = 0; value = value; spread = 0 }

-- what is shown after readings
abbrev after : List Entry → Track
after es = track (fold (tracked gains) begun es)

-- after three readings; without the second of them; after one that falls
abbrev pub worked : List Track
worked =
    after (at 100 (pos 10) ∷ at 105 (pos 12) ∷ at 110 (pos 20) ∷ [])
    ∷ after (at 100 (pos 10) ∷ at 110 (pos 20) ∷ [])
    ∷ after (at 100 (pos 0) ∷ at 103 (negsuc 0) ∷ [])
    ∷ []
