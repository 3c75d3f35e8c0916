use Rattle.number.proofs.Groups.{Reading}
use Rattle.number.proofs.leb128.decode.Given as goal

abbrev pub invariant-loop-i : goal.invariant-loop-i
invariant-loop-i l = Reading l.bytes l.i l.value
