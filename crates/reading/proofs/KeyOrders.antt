-- The laws of the order of keys.
use Rattle.std.proofs.Common.{◌≡◌, ℕ, ◌≤◌, true, false, arith}
use Rattle.std.proofs.lemmas.Bool.Decides.{nat_tests}
use Rattle.reading.specs.declared.plain.EntryKey.{EntryKey}
use Rattle.reading.specs.Order.{precedes, same, KeyOrder}

pub precedes_irrefl : (a : EntryKey) → precedes a a ≡ false
unfolding precedes
precedes_irrefl a = grind (arith, nat_tests)

pub precedes_trans : (a b c : EntryKey) → precedes a b ≡ true → precedes b c ≡ true → precedes a c ≡ true
unfolding precedes
precedes_trans a b c p q = grind (arith, nat_tests)

pub precedes_asym : (a b : EntryKey) → precedes a b ≡ true → precedes b a ≡ false
unfolding precedes
precedes_asym a b p = grind (arith, nat_tests)

same_key : {s s' n n' k k' : ℕ} → s ≡ s' → n ≡ n' → k ≡ k' → ◌≡◌ {A = EntryKey} (record { stamp = s; sensor = n; number = k }) (record { stamp = s'; sensor = n'; number = k' })
same_key p q r = cc

pub precedes_total : (a b : EntryKey) → precedes a b ≡ false → precedes b a ≡ false → a ≡ b
unfolding precedes
precedes_total a b p q = same_key (grind (arith, nat_tests)) (grind (arith, nat_tests)) (grind (arith, nat_tests))

pub same_refl : (a : EntryKey) → same a a ≡ true
unfolding same
same_refl a = grind (arith, nat_tests)

pub same_is : (a b : EntryKey) → same a b ≡ true → a ≡ b
unfolding same
same_is a b p = same_key (grind (arith, nat_tests)) (grind (arith, nat_tests)) (grind (arith, nat_tests))

-- two keys are one, or one of them comes before the other
pub same_not_before : (a b : EntryKey) → same a b ≡ true → precedes a b ≡ false
unfolding precedes same
same_not_before a b h = grind (arith, nat_tests)

pub before_not_same : (a b : EntryKey) → precedes a b ≡ true → same a b ≡ false
unfolding precedes same
before_not_same a b h = grind (arith, nat_tests)

pub after_not_same : (a b : EntryKey) → precedes a b ≡ true → same b a ≡ false
unfolding precedes same
after_not_same a b h = grind (arith, nat_tests)

pub neither_same : (a b : EntryKey) → precedes a b ≡ false → same a b ≡ false → precedes b a ≡ true
unfolding precedes same
neither_same a b p q = grind (arith, nat_tests)

pub precedes_stamp : (a b : EntryKey) → precedes a b ≡ true → a.stamp ≤ b.stamp
unfolding precedes
precedes_stamp a b h = grind (arith, nat_tests)

pub key_order : KeyOrder
key_order = record { irreflexive = precedes_irrefl; transitive = precedes_trans; total = precedes_total }

pub same_sym : (a b : EntryKey) → same a b ≡ same b a
unfolding same
same_sym a b = grind (arith, nat_tests)
