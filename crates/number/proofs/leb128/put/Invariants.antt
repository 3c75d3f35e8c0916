use Rattle.number.proofs.Groups.{Filling}
use Rattle.number.proofs.leb128.put.Given as goal

abbrev pub invariant-loop-group : goal.invariant-loop-group
invariant-loop-group l = Filling l.value l.group-items l.group-index l.rest
