-- `continuous_idct_fast` of spline.rs, and the four sums of a spline. Definitions only.
use Rattle.std.specs.Prelude.{List, get_or, Float}
use Rattle.std.specs.Float.{nan}
use Rattle.numbers.specs.Arith.{f, ◌⊗◌}
use Rattle.dequantize.specs.declared.Spline.{Spline}
use Rattle.eights.specs.Eights.{cosine_at, sum_of}
use Rattle.transform.specs.declared.Sums.{Sums}

abbrev SQRT_2 : Float
SQRT_2 = f 0x3fb504f3

-- the 32 products of a row and the cosines, summed, then times the root of 2
unfoldable pub continuous_idct : List Float → Float → Float
continuous_idct row t = sum_of (λ k. get_or row k nan ⊗ cosine_at t k) 31 ⊗ SQRT_2

-- X, Y, B and sigma at t
unfoldable pub sums_of : Spline → Float → Sums
sums_of s t = record {
  x = continuous_idct s.x t;
  y = continuous_idct s.y t;
  b = continuous_idct s.b t;
  sigma = continuous_idct s.sigma t;
}

-- ---- what the inner functions promise one another

-- the same sum by a list of cosines
unfoldable pub dot_of : List Float → List Float → Float
dot_of row cosines = sum_of (λ k. get_or row k nan ⊗ get_or cosines k nan) 31 ⊗ SQRT_2
