-- The ranges of an observer's numbers.
use Rattle.std.specs.Prelude.{ℕ}

-- the greatest rate, in units per tick
abbrev pub rate_max : ℕ
rate_max = 1000

-- how far a level may lie from 0
abbrev pub level_max : ℕ
level_max = 2000000

-- where the count of conflicts stays
abbrev pub conflicts_max : ℕ
conflicts_max = 65535
