use Rattle.std.proofs.Common.{◌≡◌, ◌+◌, false, ltb, length, refl, arith}
use Rattle.std.proofs.lemmas.Bool.{le-ltb}
use Rattle.number.specs.Numbers.{largest, encoded}
use Rattle.number.proofs.Groups.{encoded_some}
use Rattle.number.proofs.leb128.encode.Goals as goal

pub slice_bounds-put-end : goal.slice_bounds-put-end
slice_bounds-put-end c = omega (arith, encoded_some c.args.value)

pub returns-clause-answer : goal.returns-clause-answer
returns-clause-answer c =
    let e : ltb largest c.args.value ≡ false = le-ltb _ _ (omega arith) in
    let f : ltb (length c.args.buffer.now) (c.args.at + length (encoded c.args.value)) ≡ false = le-ltb _ _ (omega (arith, encoded_some c.args.value)) in
    rw (e, f, c.width-width.ensures) refl
