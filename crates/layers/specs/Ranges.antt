-- The ranges of the layers' settings.
use Rattle.std.specs.Prelude.{ℕ}

-- how far a bias may lie from 0
abbrev pub bias_max : ℕ
bias_max = 100000

-- the greatest limit of a gate
abbrev pub limit_max : ℕ
limit_max = 2000000
