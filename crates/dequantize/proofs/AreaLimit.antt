-- The area limit in whole numbers: where a sum or product of the definition saturates, the limit is reached anyway.
use Rattle.std.proofs.Common.{◌≡◌, ℕ, ◌+◌, ◌*◌, ◌^◌, min, true, false, arith}
use Rattle.std.proofs.lemmas.Bool.Decides.{nat_tests}
use Rattle.numbers.specs.Saturating.{at_most, sat_add, sat_mul}
use Rattle.dequantize.specs.Limits.{spline_area_limit}

at_most-is : (n : ℕ) → at_most n ≡ min n 18446744073709551615
at_most-is n = grind (arith, nat_tests)

pub level5_is : (area : ℕ) → spline_area_limit false area ≡ min (8 * area + 2 ^ 25) (2 ^ 30)
unfolding spline_area_limit sat_add sat_mul
level5_is area = omega (arith, at_most-is (8 * area), at_most-is (at_most (8 * area) + 2 ^ 25))

pub level10_is : (area : ℕ) → spline_area_limit true area ≡ min (1024 * area + 2 ^ 32) (2 ^ 42)
unfolding spline_area_limit sat_add sat_mul
level10_is area = omega (arith, at_most-is (1024 * area), at_most-is (at_most (1024 * area) + 2 ^ 32))

-- Assumes nothing.
