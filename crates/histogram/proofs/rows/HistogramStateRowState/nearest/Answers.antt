use Rattle.std.proofs.Common.{sym, ap, ◌∙◌, arith, rules}
use Rattle.std.proofs.lemmas.Int.{ints, clamps}
use Rattle.filter.proofs.Rows.{place}
use Rattle.histogram.specs.Rows.{counts_near, read_back, same}
use Rattle.histogram.proofs.rows.HistogramStateRowState.nearest.Goals as goal

pub returns-clause-possible : goal.returns-clause-possible
returns-clause-possible c = (omega (arith, ints, clamps), search rules, λ k. search rules)

pub returns-clause-back : goal.returns-clause-back
returns-clause-back c = λ s p e. same (omega (arith, ints, clamps, place 1 e)) (c.counts_near.ensures ∙ ap counts_near (sym e) ∙ read_back s p)
