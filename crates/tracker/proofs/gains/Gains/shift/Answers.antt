use Rattle.std.proofs.Common.{◌≡◌, ◌≤◌, nat_abs, arith, w32}
use Rattle.std.proofs.lemmas.Int.{ints, to_z-of_z}
use Rattle.tracker.specs.Ranges.{scale, x_max}
use Rattle.tracker.specs.Tracking.{part, moved}
use Rattle.tracker.specs.Keeps.{moved_within}
use Rattle.tracker.proofs.gains.Gains.shift.Goals as goal

share : (c : goal.After-share) → c.share.result ≡ part c.args.r c.args.self.a scale
share c = let r = to_z-of_z w32 c.args.r c.ranges.r in cc

within : (c : goal.After-share) → nat_abs (moved c.args.self.a c.args.p c.args.r) ≤ x_max
within c = moved_within c.args.self.a c.args.p c.args.r (omega arith) (omega arith) (omega arith)

pub overflow_cast-result : goal.overflow_cast-result
overflow_cast-result c = omega (arith, ints, share c, within c)

pub returns : goal.returns
returns c = omega (arith, ints, share c, within c)
