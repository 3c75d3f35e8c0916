use Rattle.std.proofs.Common.{◌≡◌, take, vec_items}
use Rattle.runs.specs.Ledger.{blank, ledger_of, sayings}
use Rattle.runs.specs.Telling.{Tells}
use Rattle.runs.specs.Totals.{offers, withdrawals, settles, total}
use Rattle.runs.proofs.running.run.Given as goal

abbrev pub invariant-loop-call : goal.invariant-loop-call
invariant-loop-call g l =
    let f = g.F.Filter in
    let first = l.initial.engine.filter in
    let done = take l.call-index l.calls in
    let said = sayings blank done in record {
      settings : f.settings l.engine.filter ≡ f.settings first;
      tells : Tells f (f.state first) (ledger_of done) l.engine;
      answers : vec_items l.answers ≡ said;
      offered : l.tally.offered ≡ total offers done said;
      withdrawn : l.tally.withdrawn ≡ total withdrawals done said;
      settled : l.tally.settled ≡ total settles done said;
    }
