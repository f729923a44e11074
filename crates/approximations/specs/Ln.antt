-- The natural logarithm of an f32 as a fixed sequence of f64 steps, rounded to f32 once, at the end. Definitions only.
use Rattle.std.specs.Prelude.{ℕ, zero, suc, ◌+◌, ◌%◌, ◌/◌, ◌^◌, true, false, cond, pos, Float}
use Rattle.std.specs.Float.{nan, inf, fin, binary32, binary64}
use Rattle.std.specs.Float.Ieee.{of_bits, to_bits, of_int, add, sub, mul, div, lt}
use Rattle.to_f32.specs.Narrow.{narrow}

infixl 20 ◌⊕◌
infixl 20 ◌⊖◌
infixl 30 ◌⊗◌
infixl 30 ◌⊘◌
-- the f64 with the bit pattern b
abbrev pub d : ℕ → Float
d b = of_bits binary64 b

abbrev pub ◌⊕◌ : Float → Float → Float
x ⊕ y = add binary64 x y

abbrev pub ◌⊖◌ : Float → Float → Float
x ⊖ y = sub binary64 x y

abbrev pub ◌⊗◌ : Float → Float → Float
x ⊗ y = mul binary64 x y

abbrev pub ◌⊘◌ : Float → Float → Float
x ⊘ y = div binary64 x y

-- the scope's literals, as f64: 1/21, 1/19, .. 1/3, the logarithm and the root of 2, a half, 1 and 1023
abbrev 0·047619047619047616 : Float
0·047619047619047616 = d 0x3fa8618618618618

abbrev 0·05263157894736842 : Float
0·05263157894736842 = d 0x3faaf286bca1af28

abbrev 0·058823529411764705 : Float
0·058823529411764705 = d 0x3fae1e1e1e1e1e1e

abbrev 0·06666666666666667 : Float
0·06666666666666667 = d 0x3fb1111111111111

abbrev 0·07692307692307693 : Float
0·07692307692307693 = d 0x3fb3b13b13b13b14

abbrev 0·09090909090909091 : Float
0·09090909090909091 = d 0x3fb745d1745d1746

abbrev 0·1111111111111111 : Float
0·1111111111111111 = d 0x3fbc71c71c71c71c

abbrev 0·14285714285714285 : Float
0·14285714285714285 = d 0x3fc2492492492492

abbrev 0·2 : Float
0·2 = d 0x3fc999999999999a

abbrev 0·3333333333333333 : Float
0·3333333333333333 = d 0x3fd5555555555555

abbrev 0·6931471805599453 : Float
0·6931471805599453 = d 0x3fe62e42fefa39ef

abbrev 1·4142135623730951 : Float
1·4142135623730951 = d 0x3ff6a09e667f3bcd

abbrev 0·5 : Float
0·5 = d 0x3fe0000000000000

abbrev 1·0 : Float
1·0 = d 0x3ff0000000000000

abbrev 1023·0 : Float
1023·0 = d 0x408ff80000000000

-- ln (z * 2 ^ k) by the series of the inverse hyperbolic tangent
unfoldable pub ln_at : Float → Float → Float
ln_at z k =
    let s = (z ⊖ 1·0) ⊘ (z ⊕ 1·0) in
    let w = s ⊗ s in
    let p10 = 0·047619047619047616 in
    let p9 = p10 ⊗ w ⊕ 0·05263157894736842 in
    let p8 = p9 ⊗ w ⊕ 0·058823529411764705 in
    let p7 = p8 ⊗ w ⊕ 0·06666666666666667 in
    let p6 = p7 ⊗ w ⊕ 0·07692307692307693 in
    let p5 = p6 ⊗ w ⊕ 0·09090909090909091 in
    let p4 = p5 ⊗ w ⊕ 0·1111111111111111 in
    let p3 = p4 ⊗ w ⊕ 0·14285714285714285 in
    let p2 = p3 ⊗ w ⊕ 0·2 in
    let p1 = p2 ⊗ w ⊕ 0·3333333333333333 in
    let t = s ⊕ s in
    k ⊗ 0·6931471805599453 ⊕ (t ⊕ t ⊗ (p1 ⊗ w))

-- the pattern b of a positive f64: its digits as a number from 1 to 2, halved past the root of 2, and its exponent
unfoldable pub ln_above : ℕ → Float
ln_above b =
    let z = of_bits binary64 (b % 2 ^ 52 + 0x3ff0000000000000) in
    let k = of_int binary64 (pos (b / 2 ^ 52)) ⊖ 1023·0 in
    cond (lt 1·4142135623730951 z) (ln_at (z ⊗ 0·5) (k ⊕ 1·0)) (ln_at z k)

unfoldable pub ln_of : Float → Float
ln_of nan = nan
ln_of (inf true) = nan
ln_of (inf false) = inf false
ln_of (fin s zero e) = inf true
ln_of (fin true (suc m) e) = nan
ln_of (fin false (suc m) e) = narrow binary32 (ln_above (to_bits binary64 (fin false (suc m) e)))
