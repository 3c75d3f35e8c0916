use Rattle.number.proofs.Groups.{Counting}
use Rattle.number.proofs.leb128.width.Given as goal

abbrev pub invariant-loop-i : goal.invariant-loop-i
invariant-loop-i l = Counting l.value l.i l.rest
