use Rattle.std.proofs.Common.{◌≡◌, ℕ, Result, sym, subst, rules}
use Rattle.reading.specs.declared.plain.Refusal.{Refusal}
use Rattle.filter.specs.declared.Filter.{Ghosts}
use Rattle.engine.specs.declared.Engine.{Engine}
use Rattle.runs.specs.Ledger.{Ledger, plain, noted}
use Rattle.runs.specs.Moving.{Moved}
use Rattle.runs.specs.Telling.{Tells}
use Rattle.runs.specs.declared.plain.Call.{Call}
use Rattle.runs.proofs.Numbered.{heeded_plain}
use Rattle.runs.proofs.Telling.{tells_moved}
use Rattle.runs.proofs.carry.carry.Goals as goal

-- an engine that made the call of an arm is as the ledger says after it
carried : {F C S E : Type 0} (f : Ghosts F C S E) {c k : Call} (a : Result ℕ Refusal) (d e : Engine F C S E) → c ≡ k → Moved f (plain k) a d e → (start : S) (b : Ledger) → Tells f start b d → Tells f start (noted b c) e
carried f {c} {k} a d e is m start b h =
    let told = (tells_moved f start b d e m.settings h a (plain k) m).1 in
    subst (λ q. Tells f start (noted b q) e) (sym is) (subst (λ q. Tells f start q e) (heeded_plain b k) told)

pub returns-in-Offer-clause-tells : goal.returns-in-Offer-clause-tells
returns-in-Offer-clause-tells g c =
    carried g.F.Filter c.offer.result c.args.engine.now c.offer.new.self c.in-Offer.is (search rules)

pub returns-in-Withdraw-clause-tells : goal.returns-in-Withdraw-clause-tells
returns-in-Withdraw-clause-tells g c =
    carried g.F.Filter c.withdraw.result c.args.engine.now c.withdraw.new.self c.in-Withdraw.is (search rules)

pub returns-in-Revise-clause-tells : goal.returns-in-Revise-clause-tells
returns-in-Revise-clause-tells g c =
    carried g.F.Filter c.revise.result c.args.engine.now c.revise.new.self c.in-Revise.is (search rules)

pub returns-in-Settle-clause-tells : goal.returns-in-Settle-clause-tells
returns-in-Settle-clause-tells g c =
    carried g.F.Filter c.settle.result c.args.engine.now c.settle.new.self c.in-Settle.is (search rules)
