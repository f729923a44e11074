-- The greater of two by std, the code's way round and the other.
use Rattle.std.proofs.Common.{◌≡◌, ℕ, max, arith}
use Rattle.std.proofs.lemmas.Bool.Decides.{nat_tests}
use Rattle.estimate.specs.Estimate.{greater}

pub max-greater : (a b : ℕ) → max a b ≡ greater a b
max-greater a b = grind (arith, nat_tests)

pub max-greater_swapped : (a b : ℕ) → max b a ≡ greater a b
max-greater_swapped a b = grind (arith, nat_tests)

-- Assumes nothing.
