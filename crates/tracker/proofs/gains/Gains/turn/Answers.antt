use Rattle.std.proofs.Common.{◌≡◌, ◌*◌, max, ap, ◌∙◌, arith, w32, w64, to_z, of_z}
use Rattle.std.proofs.lemmas.Int.{ints, to_z-of_z}
use Rattle.filter.specs.Common.{limit}
use Rattle.tracker.specs.Ranges.{scale, u_max}
use Rattle.tracker.specs.Tracking.{part}
use Rattle.tracker.proofs.gains.Gains.turn.Goals as goal

pub returns : goal.returns
returns c =
    let r = to_z-of_z w32 c.args.r c.ranges.r in
    let e : c.share.result ≡ part c.args.r c.args.self.b (scale * max c.args.d 1) = cc in
    let n : to_z w32 (of_z w32 (to_z w64 (of_z w64 c.limited.result))) ≡ c.limited.result = omega (arith, ints) in
    n ∙ c.limited.ensures.value ∙ ap (limit u_max) (omega (arith, ints))
