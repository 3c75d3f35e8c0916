-- Observers of rate 2 through readings of spread 4, worked by hand.
use Rattle.std.specs.Prelude.{ℕ, List, [], ◌∷◌, ℤ, pos, fold}
use Rattle.std.proofs.Common.{lit≤}
use Rattle.reading.specs.declared.plain.Entry.{Entry}
use Rattle.observer.specs.declared.plain.Bounds.{Bounds}
use Rattle.observer.specs.declared.rate.Rate.{Rate}
use Rattle.observer.specs.Observing.{observed, begun, bounds}

abbrev two : Rate
two = record { per_tick = 2; ranged = lit≤ tt }

-- a value at a stamp, with a spread of 4
abbrev at : ℕ → ℤ → Entry
at stamp value = record { stamp = stamp; sensor = 0; number = 0; value = value; spread = 4 }

-- what is shown after three readings, and then others
abbrev after : List Entry → Bounds
after more = bounds (fold (observed two) begun (at 100 (pos 10) ∷ at 105 (pos 12) ∷ at 110 (pos 20) ∷ more))

-- after the three; after a fourth that they leave room for; after a fourth that contradicts them
abbrev pub worked : List Bounds
worked = after [] ∷ after (at 111 (pos 30) ∷ []) ∷ after (at 111 (pos 40) ∷ []) ∷ []
