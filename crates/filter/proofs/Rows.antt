-- What stands in a row.
use Rattle.std.proofs.Common.{◌≡◌, ℕ, List, get_or, ℤ, pos, sym, ap}

-- equal rows have the same number at each place
pub place : (k : ℕ) {xs ys : List ℤ} → xs ≡ ys → get_or ys k (pos 0) ≡ get_or xs k (pos 0)
place k e = ap (λ (xs : List ℤ). get_or xs k (pos 0)) (sym e)
