use Rattle.std.proofs.Common.{Some, ap, ◌∙◌, lit<, w64, rules}
use Rattle.std.specs.Option.{option_map}
use Rattle.std.proofs.lemmas.Str.Pattern.{split_parts}
use Rattle.std.proofs.lemmas.Option.{MatchOption-at_some, MatchOption-at_none}
use Rattle.std.proofs.lemmas.Int.{to_z-of_z}
use Rattle.lines.proofs.Parsing.{taken_some, taken_none, taken_whole}
use Rattle.lines.proofs.take_number.Goals as goal

pub returns-in_err-first : goal.returns-in_err-first
returns-in_err-first c =
    let text = c.args.text.now in
    let parts = split_parts 32 text c.split_once.result c.split_once.ensures.cases (lit< tt) in
    ap (option_map (λ p. (p.0, p.1.now))) c.from_residual.ensures ∙ taken_whole text (MatchOption-at_none _ _ c.in_err-first.was parts)

pub returns-in_err-number : goal.returns-in_err-number
returns-in_err-number c =
    let text = c.args.text.now in
    let parts = split_parts 32 text c.split_once.result c.split_once.ensures.cases (lit< tt) in
    let at = MatchOption-at_some _ _ _ c.in_ok-first.was parts in
    ap (option_map (λ p. (p.0, p.1.now))) c.from_residual-in_err-number.ensures ∙ taken_none text c.in_ok-first.first.now c.in_ok-first.rest.now at.0 at.1 c.in_err-number.ensures

pub returns : goal.returns
returns c =
    let text = c.args.text.now in
    let parts = split_parts 32 text c.split_once.result c.split_once.ensures.cases (lit< tt) in
    let at = MatchOption-at_some _ _ _ c.in_ok-first.was parts in
    taken_some text c.in_ok-first.first.now c.in_ok-first.rest.now at.0 at.1 _ (ap (λ n. Some n) (to_z-of_z w64 c.in_ok-number.field-0 (search rules)) ∙ c.in_ok-number.ensures)
