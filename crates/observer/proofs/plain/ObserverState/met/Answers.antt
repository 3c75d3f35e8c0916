use Rattle.std.proofs.Common.{◌≡◌, ℕ, ◌+◌, min, cond, Some, None, int_le, sym, ◌∙◌, arith}
use Rattle.std.proofs.lemmas.Grind.{common_steps}
use Rattle.observer.specs.declared.plain.Interval.{Interval}
use Rattle.observer.specs.declared.plain.ObserverState.{ObserverState}
use Rattle.observer.specs.Observing.{met, shared}
use Rattle.observer.specs.Ranges.{conflicts_max}
use Rattle.observer.proofs.plain.ObserverState.met.Goals as goal

met_some : (last n : ℕ) (known read level : Interval) → Some level ≡ cond (int_le (shared known read).low (shared known read).high) (Some (shared known read)) None → ◌≡◌ {A = ObserverState} (record { last = last; level = level; conflicts = n }) (met last n known read)
unfolding met
met_some last n known read level h = grind (arith, common_steps)

met_none : (last n more : ℕ) (known read : Interval) → more ≡ min (n + 1) conflicts_max → None ≡ cond (int_le (shared known read).low (shared known read).high) (Some (shared known read)) None → ◌≡◌ {A = ObserverState} (record { last = last; level = read; conflicts = more }) (met last n known read)
unfolding met
met_none last n more known read e h = grind (arith, common_steps)

pub returns-in-Some : goal.returns-in-Some
returns-in-Some c = met_some _ _ c.args.self.level c.args.read _ (sym c.in-Some.is ∙ c.shared.ensures)

pub returns-in-None : goal.returns-in-None
returns-in-None c = met_none _ _ _ c.args.self.level c.args.read c.saturating_add.ensures (sym c.in-None.is ∙ c.shared.ensures)
