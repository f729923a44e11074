-- `fast_erff_simd` of fast_math.rs, operation by operation: every multiply-add is a rounded product, then a rounded sum. Definitions only.
use Rattle.std.specs.Prelude.{Float}
use Rattle.numbers.specs.Arith.{f, 1·0, ◌⊕◌, ◌⊖◌, ◌⊗◌, ◌⊘◌}
use Rattle.numbers.specs.Magnitude.{abs_of, sign_of, with_sign}

-- the coefficients
abbrev 7·77394369e-02 : Float
7·77394369e-02 = f 0x3d9f35db

abbrev 2·05260015e-04 : Float
2·05260015e-04 = f 0x39573b11

abbrev 2·32120216e-01 : Float
2·32120216e-01 = f 0x3e6db0ec

abbrev 2·77820801e-01 : Float
2·77820801e-01 = f 0x3e8e3e87

-- on the magnitude
unfoldable pub erf_core : Float → Float
erf_core x =
    let denom1 = (x ⊗ 7·77394369e-02) ⊕ 2·05260015e-04 in
    let denom2 = (denom1 ⊗ x) ⊕ 2·32120216e-01 in
    let denom3 = (denom2 ⊗ x) ⊕ 2·77820801e-01 in
    let denom4 = (denom3 ⊗ x) ⊕ 1·0 in
    let denom5 = denom4 ⊗ denom4 in
    let invDenom5 = 1·0 ⊘ denom5 in
    1·0 ⊖ (invDenom5 ⊗ invDenom5)

unfoldable pub fast_erff : Float → Float
unfolding abs_of sign_of with_sign erf_core
fast_erff x = with_sign (sign_of x) (erf_core (abs_of x))
