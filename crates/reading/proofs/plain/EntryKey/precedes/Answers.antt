use Rattle.std.proofs.Common.{◌≡◌, Bool, true, false, cond, ◌&&◌, ◌||◌, ◌==◌, nat_lt, Ordering, Some, refl, ◌∙◌}
use Rattle.std.specs.Ordering.{is_lt, is_some_and, partial_ordering_then}
use Rattle.std.specs.declared.cmp.Ordering.TheVariants.{Less, Equal, Greater}
use Rattle.reading.specs.Order.{precedes}
use Rattle.reading.proofs.KeyOrders.{key_order}
use Rattle.reading.proofs.plain.EntryKey.precedes.Goals as goal

abbrev ranked : Bool → Bool → Ordering
ranked less same = cond less Less (cond same Equal Greater)

-- three comparisons in turn, of each whether it is less and whether it is equal
in_turn : (l e m f n g : Bool) → is_some_and is_lt (partial_ordering_then (Some (ranked l e)) (partial_ordering_then (Some (ranked m f)) (Some (ranked n g)))) ≡ (l || (e && (m || (f && n))))
in_turn true e m f n g = refl
in_turn false false m f n g = refl
in_turn false true true f n g = refl
in_turn false true false false n g = refl
in_turn false true false true true g = refl
in_turn false true false true false true = refl
in_turn false true false true false false = refl

pub returns-clause-value : goal.returns-clause-value
unfolding precedes
returns-clause-value c =
    let a = c.args.self.now in
    let b = c.args.other.now in
    c.lt.ensures ∙ in_turn (nat_lt a.stamp b.stamp) (a.stamp == b.stamp) (nat_lt a.sensor b.sensor) (a.sensor == b.sensor) (nat_lt a.number b.number) (a.number == b.number)

pub returns-clause-law : goal.returns-clause-law
returns-clause-law c = key_order
