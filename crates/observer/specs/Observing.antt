-- What an observer knows, and what a reading makes of it.
use Rattle.std.specs.Prelude.{ℕ, ◌+◌, ◌*◌, ◌≤◌, min, cond, ◌&&◌, List, [], ◌∷◌, ℤ, pos, ◌+ℤ◌, ◌-ℤ◌, neg_ℤ, ◌≤ℤ◌, Some, None, Option, int_le, unsigned_abs}
use Rattle.std.specs.Int.{int_min, int_max}
use Rattle.reading.specs.Ranges.{stamp_max}
use Rattle.reading.specs.declared.plain.Entry.{Entry}
use Rattle.filter.specs.Common.{elapsed, latest, limit, floor_div, padded}
use Rattle.observer.specs.Ranges.{level_max, conflicts_max}
use Rattle.observer.specs.declared.plain.Interval.{Interval}
use Rattle.observer.specs.declared.plain.ObserverState.{ObserverState}
use Rattle.observer.specs.declared.plain.Bounds.{Bounds}
use Rattle.observer.specs.declared.rate.Rate.{Rate}

-- the interval with its low end lowered and its high end raised, both limited
abbrev pub widened : ℕ → Interval → Interval
widened by i = record { low = limit level_max (i.low -ℤ pos by); high = limit level_max (i.high +ℤ pos by) }

-- where the level can lie at a stamp, after what is known
abbrev pub reached : Rate → ObserverState → ℕ → Interval
reached c s stamp = widened (c.per_tick * elapsed s.last stamp) s.level

-- the levels that a reading allows
abbrev pub allowed : Entry → Interval
allowed e = record { low = e.value -ℤ pos e.spread; high = e.value +ℤ pos e.spread }

-- what two intervals share; it is empty where its low end lies above its high end
abbrev pub shared : Interval → Interval → Interval
shared a b = record { low = int_max a.low b.low; high = int_min a.high b.high }

-- what is known after a reading: what it shares with what was known, or, where they share no number, the reading alone and one conflict more
unfoldable pub met : ℕ → ℕ → Interval → Interval → ObserverState
met last conflicts known read =
    cond (int_le (shared known read).low (shared known read).high)
    (record { last = last; level = shared known read; conflicts = conflicts })
    (record { last = last; level = read; conflicts = min (conflicts + 1) conflicts_max })

-- a step
abbrev pub observed : Rate → ObserverState → Entry → ObserverState
observed c s e = met (latest s.last e.stamp) s.conflicts (reached c s e.stamp) (allowed e)

-- the middle of an interval, rounded down; none where nothing is known
unfoldable pub middle : Interval → Option ℤ
middle i =
    cond (int_le i.low (neg_ℤ (pos level_max)) && int_le (pos level_max) i.high) None (Some (floor_div (i.low +ℤ i.high) 2))

abbrev pub forecasted : Rate → ObserverState → ℕ → Option ℤ
forecasted c s stamp = middle (reached c s stamp)

-- the first state: nothing is known
abbrev pub begun : ObserverState
begun = record { last = 0; level = record { low = neg_ℤ (pos level_max); high = pos level_max }; conflicts = 0 }

abbrev pub Possible : ObserverState → Type 0
Possible s =
    (s.last ≤ stamp_max)
    × (unsigned_abs s.level.low ≤ level_max)
    × (unsigned_abs s.level.high ≤ level_max)
    × (s.level.low ≤ℤ s.level.high)
    × (s.conflicts ≤ conflicts_max)

abbrev pub row : ObserverState → List ℤ
row s = padded (pos 1 ∷ pos s.last ∷ s.level.low ∷ s.level.high ∷ pos s.conflicts ∷ [])

abbrev pub bounds : ObserverState → Bounds
bounds s = record { low = s.level.low; high = s.level.high; conflicts = s.conflicts }
