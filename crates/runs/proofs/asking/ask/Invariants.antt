use Rattle.std.proofs.Common.{◌≡◌, take, vec_items, fold}
use Rattle.runs.specs.Ledger.{Ledger}
use Rattle.runs.specs.Replies.{asked, replies}
use Rattle.runs.specs.Telling.{Tells}
use Rattle.runs.proofs.asking.ask.Given as goal

abbrev pub invariant-loop-request : goal.invariant-loop-request
invariant-loop-request g l =
    let f = g.F.Filter in
    let own = f.settings l.initial.engine.filter in
    let done = take l.request-index l.requests in record {
      settings : f.settings l.engine.filter ≡ own;
      tells : (start : _) (b : Ledger) → Tells f start b l.initial.engine → Tells f start (fold asked b done) l.engine;
      replies : (start : _) (b : Ledger) → Tells f start b l.initial.engine → vec_items l.answers ≡ replies f own start b done;
    }
