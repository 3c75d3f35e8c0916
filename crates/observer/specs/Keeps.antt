-- A step leads from a possible state to a possible one.
use Rattle.std.specs.Prelude.{ℕ, ◌≤◌, ◌≤ℤ◌, int_le, unsigned_abs}
use Rattle.std.proofs.Common.{arith}
use Rattle.std.proofs.lemmas.Int.{ints, clamps}
use Rattle.std.proofs.lemmas.Bool.{cond_both}
use Rattle.reading.specs.Ranges.{Ranged, stamp_max}
use Rattle.reading.specs.declared.plain.Entry.{Entry}
use Rattle.filter.proofs.Limits.{limit_within}
use Rattle.observer.specs.Observing.{met, observed, shared, Possible}
use Rattle.observer.specs.Ranges.{level_max, conflicts_max}
use Rattle.observer.specs.declared.plain.Interval.{Interval}
use Rattle.observer.specs.declared.plain.ObserverState.{ObserverState}
use Rattle.observer.specs.declared.rate.Rate.{Rate}

met_possible : (last n : ℕ) (known read : Interval) → last ≤ stamp_max → n ≤ conflicts_max → unsigned_abs known.low ≤ level_max → unsigned_abs known.high ≤ level_max → unsigned_abs read.low ≤ level_max → unsigned_abs read.high ≤ level_max → read.low ≤ℤ read.high → Possible (met last n known read)
unfolding met
met_possible last n known read h k kl kh rl rh r =
    cond_both (int_le (shared known read).low (shared known read).high) _ _ Possible
    (λ e. (h, omega (arith, ints, clamps), omega (arith, ints, clamps), omega (arith, ints), k))
    (λ e. (h, rl, rh, r, omega arith))

pub observed_possible : (c : Rate) (s : ObserverState) (e : Entry) → Ranged e → Possible s → Possible (observed c s e)
observed_possible c s e r p =
    met_possible _ _ _ _ (omega arith) p.4 (limit_within _ _) (limit_within _ _) (omega (arith, ints)) (omega (arith, ints)) (omega (arith, ints))
