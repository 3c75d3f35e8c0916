use Rattle.std.proofs.Common.{ap, arith}
use Rattle.std.proofs.lemmas.Bool.Decides.{nat_tests}
use Rattle.reading.specs.Refusals.{numbered}
use Rattle.reading.proofs.Numbering.{numbered_apart}
use Rattle.reading.proofs.plain.RefusalPartialEq.eq.Goals as goal

pub returns-clause-same : goal.returns-clause-same
returns-clause-same c = (
  (λ t. numbered_apart c.args.self.now c.args.other.now (grind (arith, nat_tests))),
  (λ e. let same = ap numbered e in grind (arith, nat_tests)),
)
