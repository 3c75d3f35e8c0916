-- The ranges of a histogram's numbers.
use Rattle.std.specs.Prelude.{ℕ}

-- how far an origin may lie from 0
abbrev pub origin_max : ℕ
origin_max = 1000000

abbrev pub width_max : ℕ
width_max = 100000

-- how many bins there are, numbered from 0
abbrev pub bin_count : ℕ
bin_count = 16

-- where a count stays
abbrev pub count_max : ℕ
count_max = 4294967295
