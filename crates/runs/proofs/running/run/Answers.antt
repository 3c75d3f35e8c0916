use Rattle.std.proofs.Common.{◌≡◌, ◌+◌, [], ◌∷◌, ◌++◌, length, take, fold, sym, ap, ◌∙◌, subst, arith}
use Rattle.std.proofs.lemmas.List.{take_all}
use Rattle.std.proofs.lemmas.Slice.{pushed}
use Rattle.std.proofs.lemmas.List.Sums.{fold_more}
use Rattle.runs.specs.Ledger.{blank, ledger_of, said, noted, sayings}
use Rattle.runs.specs.Telling.{Tells}
use Rattle.runs.specs.Totals.{offers, withdrawals, settles}
use Rattle.runs.proofs.Lists.{sayings_more, tells_state}
use Rattle.runs.proofs.Totals.{adds_up, counts_more, few}
use Rattle.runs.proofs.running.run.Goals as goal

pub count-requires : goal.count-requires
count-requires g c =
    let f = g.F.Filter in
    let calls = c.args.calls.now in
    let i = c.loop-call.call-index in
    let x = c.call-item.result in
    let a = c.carry-answer.result in
    let inv = c.loop-call.invariant in
    let h = c.loop-call-test.true in
    let says = c.carry-answer.ensures.said (f.state c.new-engine.result.filter) (ledger_of (take i calls)) inv.tells in
    let n = few calls i (omega (arith, h)) in
    record {
      offered = omega (arith, inv.offered, n.0, counts_more offers blank calls i x a h c.call-item.is says);
      withdrawn = omega (arith, inv.withdrawn, n.1, counts_more withdrawals blank calls i x a h c.call-item.is says);
      settled = omega (arith, inv.settled, n.2, counts_more settles blank calls i x a h c.call-item.is says);
    }

pub loop-call-preserved : goal.loop-call-preserved
loop-call-preserved g c =
    let f = g.F.Filter in
    let calls = c.args.calls.now in
    let i = c.loop-call.call-index in
    let x = c.call-item.result in
    let a = c.carry-answer.result in
    let inv = c.loop-call.invariant in
    let h = c.loop-call-test.true in
    let start = f.state c.new-engine.result.filter in
    let b = ledger_of (take i calls) in
    let says = c.carry-answer.ensures.said start b inv.tells in
    let t = c.count.ensures in record {
      settings = c.carry-answer.ensures.moved.settings ∙ inv.settings;
      tells = subst (λ q. Tells f start q c.carry-answer.new.engine) (ap (noted b) c.call-item.is ∙ sym (fold_more noted blank calls i x h)) (c.carry-answer.ensures.tells start b inv.tells);
      answers = pushed (a ∷ []) inv.answers c.in_ok-push.was c.push.ensures.items ∙ ap (λ q. sayings blank (take i calls) ++ q ∷ []) (says ∙ ap (said b) c.call-item.is) ∙ sym (sayings_more blank calls i x h);
      offered = t.offered ∙ ap (λ q. q + offers x a) inv.offered ∙ counts_more offers blank calls i x a h c.call-item.is says;
      withdrawn = t.withdrawn ∙ ap (λ q. q + withdrawals x a) inv.withdrawn ∙ counts_more withdrawals blank calls i x a h c.call-item.is says;
      settled = t.settled ∙ ap (λ q. q + settles x a) inv.settled ∙ counts_more settles blank calls i x a h c.call-item.is says;
    }

pub returns-clause-state : goal.returns-clause-state
returns-clause-state g c =
    let f = g.F.Filter in
    let calls = c.args.calls.now in
    let e = c.loop-call.engine in
    let first = c.new-engine.result.filter in
    let new = c.new-engine.ensures in
    let inv = c.loop-call.invariant in
    let start = f.state c.args.filter in
    let all : take c.loop-call.call-index calls ≡ calls = take_all c.loop-call.call-index calls c.loop-call-test.false in
    let own : f.settings e.filter ≡ f.settings c.args.filter = inv.settings ∙ new.settings in
    let from : f.state first ≡ start = new.stands.state ∙ ap (fold (f.stepped (f.settings first)) start) new.log in
    let h : Tells f start (ledger_of calls) e = subst (λ q. Tells f q (ledger_of calls) e) from (subst (λ q. Tells f (f.state first) (ledger_of q) e) all inv.tells) in
    tells_state f start (ledger_of calls) e h ∙ ap (λ q. fold (f.stepped q) start (ledger_of calls).standing) own

pub returns-clause-whole : goal.returns-clause-whole
returns-clause-whole g c =
    let inv = c.loop-call.invariant in
    omega (arith, inv.offered, inv.withdrawn, inv.settled, adds_up (take c.loop-call.call-index c.args.calls.now) blank, ap length inv.tells.log)
