-- The sums of a transform: a sum by the table of cosines is the sum by their rule, product by product.
use mathlib.Core.Path.{◌≡◌, refl, ap, ◌∙◌}
use mathlib.Core.List.{List}
use Prim.Native.Nat.{ℕ, zero, suc, ◌≤◌}
use native.Mathlib.Omega.{arith}
use lib.ListN.{get_or}
use lib.Ieee.{Float, nan}
use Rattle.numbers.specs.Arith.{f, ◌⊗◌}
use Rattle.dequantize.specs.Coefficients.{table}
use Rattle.eights.specs.Eights.{cosine_at, sum_of}
use Rattle.eights.proofs.Feeding.{get_d_table, product}
use Rattle.transform.specs.Transform.{dot_of, continuous_idct}

sum_same : (p q : ℕ → Float) (n : ℕ) → ((k : ℕ) → k ≤ n → p k ≡ q k) → sum_of p n ≡ sum_of q n
unfolding sum_of
sum_same p q zero h = h 0 (omega arith)
sum_same p q (suc n) h = rw (sum_same p q n (λ k l. h k (omega arith)), h (suc n) (omega arith))

-- a sum by the table of cosines is the transform of its row
pub idct_is : (row : List Float) (t : Float) {cosines : List Float} {r : Float} → cosines ≡ table (cosine_at t) 32 → r ≡ dot_of row cosines → r ≡ continuous_idct row t
unfolding dot_of continuous_idct
idct_is row t e q =
    q ∙ rw (e, sum_same (λ k. get_or row k nan ⊗ get_or (table (cosine_at t) 32) k nan) (λ k. get_or row k nan ⊗ cosine_at t k) 31 (λ k l. ap (λ (v : Float). get_or row k nan ⊗ v) (get_d_table (cosine_at t) 32 k nan (omega arith))))

-- the whole sum of a row, times the root of 2
pub scaled_is : (row : List Float) (t : Float) {s : Float} → s ≡ sum_of (product row t) 31 → s ⊗ f 0x3fb504f3 ≡ continuous_idct row t
unfolding dot_of
scaled_is row t e = idct_is row t {cosines = table (cosine_at t) 32} refl (ap (λ (v : Float). v ⊗ f 0x3fb504f3) e)

-- Assumes nothing.
