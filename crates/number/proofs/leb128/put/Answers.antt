use Rattle.std.proofs.Common.{◌-◌, length, sym, ◌∙◌, arith}
use Rattle.std.proofs.lemmas.List.{length-take}
use Rattle.number.proofs.Groups.{encoded_some, fill_none, fill_more, fill_all, set_last}
use Rattle.number.proofs.leb128.put.Goals as goal

pub overflow_sub-last : goal.overflow_sub-last
overflow_sub-last c = omega (arith, encoded_some c.args.value)

pub loop-group-init : goal.loop-group-init
loop-group-init c = fill_none _ _ c.requires.0 (omega (arith, encoded_some c.args.value, length-take (length c.args.space.now - 1) c.args.space.now))

pub loop-group-preserved : goal.loop-group-preserved
loop-group-preserved c = fill_more _ _ _ _ c.loop-group.invariant (omega arith)

-- behind the loop all groups but the last are put in
pub overflow_cast-space : goal.overflow_cast-space
overflow_cast-space c = let d = fill_all _ _ _ _ c.loop-group.invariant (omega arith) in omega (arith, d.1)

pub returns : goal.returns
returns c =
    let old = c.args.space.now in
    let some = encoded_some c.args.value in
    let d = fill_all _ _ _ _ c.loop-group.invariant (omega arith) in
    set_last c.loop-group.group-items old (length old - 1) c.loop-group.rest (omega (arith, some, length-take (length old - 1) old)) (omega (arith, some)) ∙ sym d.0
