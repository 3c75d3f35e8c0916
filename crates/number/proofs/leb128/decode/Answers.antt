use Rattle.std.proofs.Common.{◌≡◌, ◌-◌, ◌<◌, sym, ◌∙◌, ⊎_elim, arith}
use Rattle.std.proofs.ByRecursion.{All-from_get_or}
use Rattle.number.proofs.Groups.{read_none, ended, not_shortest, stopped, read_more, shifted, sum_fits, exact}
use Rattle.number.proofs.leb128.decode.Goals as goal

pub loop-i-init : goal.loop-i-init
loop-i-init c = read_none _

pub returns-in_default-clause-answer : goal.returns-in_default-clause-answer
returns-in_default-clause-answer c = sym (ended _ _ _ c.loop-i.invariant (omega arith) (grind (arith, c.get.ensures.lookup)))

pub returns-then-i-gt0-clause-answer : goal.returns-then-i-gt0-clause-answer
returns-then-i-gt0-clause-answer c =
    let at = c.in-Some.ensures.lookup.3 in
    sym (not_shortest _ _ _ c.loop-i.invariant (omega arith) at.0 (omega (arith, at.1 0)) (omega arith))

pub overflow_add-value : goal.overflow_add-value
overflow_add-value c = omega (arith, sum_fits c.loop-i.i c.loop-i.value c.from.result (omega arith) (omega arith) c.loop-i.invariant.small)

pub returns-then-b-lt128 : goal.returns-then-b-lt128
returns-then-b-lt128 c =
    let at = c.in-Some.ensures.lookup.3 in
    let b = c.in-Some.field-0.now in
    let z : b ≡ 0 → c.loop-i.i ≡ 0 = λ e. ⊎_elim (λ h. omega arith) (λ h. absurd (h e)) c.else-b-eq0.either in
    let m : c.loop-i.i ≡ 6 → b < 64 = λ e. ⊎_elim (λ h. absurd (h.1 e)) (λ h. omega arith) c.else-b-ge64.either in
    let e = stopped _ _ _ c.loop-i.invariant (omega arith) at.0 (omega (arith, at.1 0)) (λ h. z (at.1 0 ∙ h)) (λ h. omega (arith, at.1 0, m h)) in
    rw (c.from.ensures, shifted c.loop-i.i b (omega arith) (omega arith), at.1 0)
    (record { answer = sym e; law = exact _ _ (All-from_get_or (λ x. x < 256) c.args.bytes.now 0 (λ i _. omega (arith, c.type_inv.bytes i))) e })

pub loop-i-preserved : goal.loop-i-preserved
loop-i-preserved c =
    let at = c.in-Some.ensures.lookup.3 in
    let fits = c.type_inv.bytes c.loop-i.i in
    rw (c.from-in-loop-i.ensures, shifted c.loop-i.i (c.in-Some.field-0.now - 128) (omega arith) (omega (arith, at.1 0, fits)), at.1 0)
    (read_more _ _ _ c.loop-i.invariant (omega arith) at.0 (omega (arith, at.1 0)) (omega (arith, fits)))
