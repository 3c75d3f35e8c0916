use Rattle.std.proofs.Common.{arith, w64, to_z, of_z}
use Rattle.std.proofs.lemmas.Int.{ints}
use Rattle.tracker.specs.Products.{product_within}
use Rattle.tracker.proofs.whole.times.Goals as goal

pub overflow_mul-result : goal.overflow_mul-result
overflow_mul-result c =
    omega (arith, ints, product_within (to_z w64 (of_z w64 c.from.result)) (to_z w64 (of_z w64 c.from-2.result)) 2147483648 65535 (omega (arith, ints)) (omega (arith, ints)))
