-- `DCT_MULTIPLIERS` and `PrecomputedCosines` of spline.rs, and a sum of products in their order. Definitions only.
use Rattle.std.specs.Prelude.{ℕ, zero, suc, pos, Float}
use Rattle.std.specs.Float.{binary32}
use Rattle.std.specs.Float.Ieee.{of_int}
use Rattle.numbers.specs.Arith.{f, 0·5, ◌⊕◌, ◌⊗◌, ◌⊘◌}
use Rattle.approximations.specs.Cos.{fast_cos}

abbrev PI : Float
PI = f 0x40490fdb

abbrev 32·0 : Float
32·0 = f 0x42000000

-- PI / 32.0 * k
unfoldable pub dct_multiplier : ℕ → Float
dct_multiplier k = PI ⊘ 32·0 ⊗ of_int binary32 (pos k)

-- fast_cos(DCT_MULTIPLIERS[k] * (t + 0.5))
unfoldable pub cosine_at : Float → ℕ → Float
cosine_at t k = fast_cos (dct_multiplier k ⊗ (t ⊕ 0·5))

-- p 0, and the n products after it added one after another
unfoldable pub sum_of : (ℕ → Float) → ℕ → Float
sum_of p zero = p 0
sum_of p (suc n) = sum_of p n ⊕ p (suc n)
