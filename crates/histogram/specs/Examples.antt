-- A histogram of origin 0 and width 10, worked by hand.
use Rattle.std.specs.Prelude.{ℕ, List, [], ◌∷◌, map, pos, negsuc}
use Rattle.std.proofs.Common.{lit≤}
use Rattle.histogram.specs.declared.bins.Bins.{Bins}
use Rattle.histogram.specs.Counting.{bin}

abbrev tens : Bins
tens = record { origin = pos 0; width = 10; ranged = (lit≤ tt, lit≤ tt, lit≤ tt) }

abbrev pub worked : List ℕ
worked = map (bin tens) (negsuc 0 ∷ pos 9 ∷ pos 10 ∷ pos 159 ∷ pos 160 ∷ [])
