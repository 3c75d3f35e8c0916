use Rattle.std.proofs.Common.{arith}
use Rattle.std.proofs.lemmas.Nat.{mul-le}
use Rattle.reading.specs.Ranges.{stamp_max}
use Rattle.observer.specs.Ranges.{rate_max}
use Rattle.observer.proofs.Observer.reach.Goals as goal

pub returns-clause-small : goal.returns-clause-small
returns-clause-small c = omega (arith, mul-le c.from.result c.saturating_sub.result rate_max stamp_max (omega arith) (omega arith))
