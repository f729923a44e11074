-- `fast_cos` of fast_math.rs, operation by operation. Definitions only.
use Rattle.std.specs.Prelude.{cond, Float}
use Rattle.std.specs.Float.{binary32}
use Rattle.std.specs.Float.Ieee.{neg, le}
use Rattle.numbers.specs.Arith.{f, 0·25, 1·0, ◌⊕◌, ◌⊖◌, ◌⊗◌}
use Rattle.wholes.specs.Whole.{floor_of}
use Rattle.numbers.specs.Magnitude.{min_of}

-- the coefficients of the polynomial
abbrev 0·06960438 : Float
0·06960438 = f 0x3d8e8cbe

abbrev 0·84087373 : Float
0·84087373 = f 0x3f574380

abbrev 1·68179268 : Float
1·68179268 = f 0x3fd744fc

-- SQRT_2, PI, `pi2`, `PI / 2.0` and `pi2_inv`, each rounded to f32
abbrev sqrt2 : Float
sqrt2 = f 0x3fb504f3

abbrev pi : Float
pi = f 0x40490fdb

abbrev two_pi : Float
two_pi = f 0x40c90fdb

abbrev half_pi : Float
half_pi = f 0x3fc90fdb

abbrev over_two_pi : Float
over_two_pi = f 0x3e22f983

-- steps 4 and 5: the polynomial on a quarter of the angle, and the angle doubled twice
unfoldable pub cos_core : Float → Float
cos_core x =
    let xs = x ⊗ 0·25 in
    let x2 = xs ⊗ xs in
    let x4 = x2 ⊗ x2 in
    let c = (x4 ⊗ 0·06960438) ⊕ ((x2 ⊗ neg 0·84087373) ⊕ 1·68179268) in
    let c1 = (c ⊗ c) ⊖ sqrt2 in
    (c1 ⊗ c1) ⊖ 1·0

-- steps 1 and 2: the angle brought to a turn, then to half a turn
unfoldable pub folded : Float → Float
folded x =
    let m = x ⊖ (floor_of binary32 (x ⊗ over_two_pi) ⊗ two_pi) in
    min_of m (two_pi ⊖ m)

-- steps 3 and 6: from a quarter turn on, the angle is taken from half a turn and the sign changes
unfoldable pub fast_cos : Float → Float
fast_cos x =
    let a = folded x in
    cond (le half_pi a) (neg (cos_core (pi ⊖ a))) (cos_core a)
