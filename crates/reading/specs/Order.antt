-- The order of keys.
use Rattle.std.specs.Prelude.{◌≡◌, Bool, true, false, ◌&&◌, ◌||◌, ◌==◌, nat_lt}
use Rattle.reading.specs.declared.plain.EntryKey.{EntryKey}

-- a comes before b: stamp, sensor and number are compared in that order
unfoldable pub precedes : EntryKey → EntryKey → Bool
precedes a b =
    nat_lt a.stamp b.stamp
    || (a.stamp == b.stamp && (nat_lt a.sensor b.sensor
    || (a.sensor == b.sensor && nat_lt a.number b.number)))

-- a and b are one key
unfoldable pub same : EntryKey → EntryKey → Bool
same a b = a.stamp == b.stamp && (a.sensor == b.sensor && a.number == b.number)

-- keys are strictly ordered, and of two different keys one comes before the other
pub record KeyOrder : Type 0 where
  pub irreflexive : (a : EntryKey) → precedes a a ≡ false
  pub transitive : (a b c : EntryKey) → precedes a b ≡ true → precedes b c ≡ true → precedes a c ≡ true
  pub total : (a b : EntryKey) → precedes a b ≡ false → precedes b a ≡ false → a ≡ b
