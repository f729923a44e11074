-- Readings of the scope, computed.
use Rattle.std.proofs.Common.{◌≡◌, false, pos, negsuc, refl}
use lib.Ieee.{fin, of_bits, of_int, add, sub, mul, div}
use Rattle.numbers.specs.Saturating.{sat_add, sat_mul}
use Rattle.dequantize.specs.Limits.{spline_area_limit}
use Rattle.dequantize.specs.Coefficients.{inv_adjusted_quant}

-- ---- the area limit

pub level5_none : spline_area_limit false 0 ≡ 33554432
unfolding spline_area_limit sat_add sat_mul
level5_none = refl

pub level5_below : spline_area_limit false 130023423 ≡ 1073741816
unfolding spline_area_limit sat_add sat_mul
level5_below = refl

pub level5_at : spline_area_limit false 130023424 ≡ 1073741824
unfolding spline_area_limit sat_add sat_mul
level5_at = refl

-- ---- the inverse quant

-- 8 gives 0.5
pub adjustment_8 : inv_adjusted_quant (pos 8) ≡ fin false 1 (negsuc 0)
unfolding inv_adjusted_quant of_bits of_int add mul div
adjustment_8 = refl

-- -8 gives 2
pub adjustment_minus_8 : inv_adjusted_quant (negsuc 7) ≡ fin false 1 (pos 1)
unfolding inv_adjusted_quant of_bits of_int sub mul
adjustment_minus_8 = refl

-- Assumes nothing.
