use Rattle.std.proofs.Common.{◌≡◌, pos, ◌*ℤ◌, ap, ◌∙◌, arith, w32, w64, to_z, of_z}
use Rattle.std.proofs.lemmas.Int.{ints}
use Rattle.filter.specs.Common.{limit}
use Rattle.tracker.specs.Ranges.{x_max}
use Rattle.tracker.proofs.plain.Track.ahead.Goals as goal

pub returns-clause-value : goal.returns-clause-value
returns-clause-value c =
    let u : to_z w32 (of_z w32 c.args.self.u) ≡ c.args.self.u = omega (arith, ints) in
    let way : c.times.result ≡ c.args.self.u *ℤ pos c.args.d = cc in
    let p : to_z w32 (of_z w32 (to_z w64 (of_z w64 c.limited.result))) ≡ c.limited.result = omega (arith, ints) in
    p ∙ c.limited.ensures.value ∙ ap (limit x_max) (omega (arith, ints))
