-- The ranges of a tracker's numbers.
use Rattle.std.specs.Prelude.{ℕ}

-- how many parts a unit of the position, of the speed or of a gain has; the greatest gain is one unit
abbrev pub scale : ℕ
scale = 1024

-- the longest time, in ticks, that a speed is held for
abbrev pub span_max : ℕ
span_max = 10000

-- how far a position may lie from 0
abbrev pub x_max : ℕ
x_max = 1100000000

-- how far a speed may lie from 0
abbrev pub u_max : ℕ
u_max = 10000000
