-- How thick the line of a trace is. Definitions only.
-- The mean of sigma along a trace is its first coefficient, dequantized: the cosines of the later ones average to nothing, and the roots of 1/2 and of 2 that dequantizing and the
-- transform multiply the first one by make one. A line has it on either side.
use Rattle.std.specs.Prelude.{ℕ, ℤ, Float}
use Rattle.std.specs.Float.{binary32}
use Rattle.std.specs.Float.Ieee.{of_int, to_unsigned}
use Rattle.numbers.specs.Arith.{f, ◌⊗◌}
use Rattle.numbers.specs.Magnitude.{abs_of}
use Rattle.wholes.specs.Whole.{round_of}
use Rattle.dequantize.specs.Coefficients.{0·3333, inv_adjusted_quant}

abbrev 200·0 : Float
200·0 = f 0x43480000

-- by a first sigma coefficient
unfoldable pub mean_sigma : ℤ → ℤ → Float
mean_sigma sigma adjustment = of_int binary32 sigma ⊗ 0·3333 ⊗ inv_adjusted_quant adjustment

-- twice that, in hundredths of a pixel
unfoldable pub hundredths_of : Float → ℕ
hundredths_of mean = to_unsigned 64 (round_of binary32 (200·0 ⊗ abs_of mean))
