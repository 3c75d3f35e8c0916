use Rattle.std.proofs.Common.{◌≡◌, ℕ, ◌+◌, ◌<◌, length, get_or, pos}
use Rattle.histogram.specs.Rows.{near}
use Rattle.histogram.proofs.rows.counts_near.Given as goal

abbrev pub invariant-loop-k : goal.invariant-loop-k
invariant-loop-k l = (length l.counts ≡ 16) × ((k : ℕ) → k < l.k → get_or l.counts k 0 ≡ near (get_or l.row (2 + k) (pos 0)))
