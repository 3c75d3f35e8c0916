-- What a histogram knows, and what a reading makes of it.
use Rattle.std.specs.Prelude.{◌≡◌, ℕ, ◌+◌, ◌-◌, ◌/◌, ◌≤◌, min, cond, List, ◌∷◌, map, length, replicate, ℤ, pos, ◌-ℤ◌, int_lt, slice_index, slice_set, unsigned_abs}
use Rattle.reading.specs.Ranges.{stamp_max}
use Rattle.reading.specs.declared.plain.Entry.{Entry}
use Rattle.filter.specs.Common.{latest, padded}
use Rattle.histogram.specs.Ranges.{bin_count, count_max}
use Rattle.histogram.specs.declared.bins.Bins.{Bins}
use Rattle.histogram.specs.declared.plain.HistogramState.{HistogramState}

-- the bin of a value: how many whole widths it lies above the origin, but at most the last bin, and the first for all below the origin
abbrev pub bin : Bins → ℤ → ℕ
bin c value = cond (int_lt value c.origin) 0 (min (unsigned_abs (value -ℤ c.origin) / c.width) (bin_count - 1))

-- the counts with one more in bin k, unless it is full
abbrev pub risen : List ℕ → ℕ → List ℕ
risen counts k = slice_set counts k (min (slice_index counts k + 1) count_max)

-- a step
abbrev pub counted : Bins → HistogramState → Entry → HistogramState
counted c s e = record { last = latest s.last e.stamp; counts = risen s.counts (bin c e.value) }

-- the first state
abbrev pub begun : HistogramState
begun = record { last = 0; counts = replicate bin_count 0 }

abbrev pub Possible : HistogramState → Type 0
Possible s = (s.last ≤ stamp_max) × (length s.counts ≡ bin_count) × ((k : ℕ) → slice_index s.counts k ≤ count_max)

abbrev pub row : HistogramState → List ℤ
row s = padded (pos 2 ∷ pos s.last ∷ map pos s.counts)
