use Rattle.std.proofs.Common.{◌≡◌, pos, ◌∙◌, arith, w32, w64, to_z, of_z, rules}
use Rattle.std.proofs.lemmas.Int.{ints, to_z-of_z}
use Rattle.tracker.specs.Tracking.{part}
use Rattle.tracker.specs.Products.{part_between}
use Rattle.tracker.proofs.whole.share.Goals as goal

pub returns : goal.returns
unfolding part
returns c =
    let z = to_z-of_z w32 c.args.z c.ranges.z in
    let t = to_z-of_z w64 c.times.result (search rules) in
    let n : to_z w64 (of_z w64 c.from.result) ≡ pos c.args.n = omega (arith, ints) in
    let e : c.div_euclid.result ≡ part c.args.z c.args.gain c.args.n = cc in
    let b = part_between c.args.z c.args.gain c.args.n c.requires.0 c.requires.1 in
    record { value = to_z-of_z w64 _ (search rules) ∙ e; within = omega (arith, ints) }
