-- A value above zero goes to narrow_above, one below it is turned; each other case of a float is computed.
use mathlib.Core.Path.{◌≡◌, refl, sym, ap, ◌∙◌}
use mathlib.Core.Bool.{true, false, not, ◌&&◌}
use Prim.Native.Nat.{zero, suc, ◌*◌, zero-le}
use native.Mathlib.Nat.{zero-lt-suc, mul-one, zero-mul}
use lib.Dec.{T, eqb, T_not}
use lib.Ieee.{Float, nan, inf, fin, binary32, binary64, up, down, round, fits, is_nan, of_bits, div, neg, lt, eq}
use lib.Ieee.Fits.{down_pos, and_l, and_i, round-fits}
use lib.Ieee.Scale.{round_same}
use lib.Ieee.Back.{round_whole, whole_unique}
use lib.Ieee.Positive.{positive}
use Rattle.numbers.proofs.Zero.{yes, no, null, over, under, zero_is, not_zero, above, flipped}
use Rattle.numbers.proofs.Units.{neg_round}
use Rattle.to_f32.specs.Narrow.{narrow}
use Rattle.to_f32.proofs.nearest_f64_to_f32.Goals as goal

endless : (x : Float) → T (lt null x) → T (not (lt x (inf false))) → inf false ≡ narrow binary32 x
unfolding lt narrow
endless nan a b = absurd a
endless (inf true) a b = absurd a
endless (inf false) a b = refl
endless (fin s m e) a b = absurd b

endless-minus : (x : Float) → T (lt x null) → T (not (lt (neg x) (inf false))) → inf true ≡ narrow binary32 x
unfolding lt narrow neg
endless-minus nan a b = absurd a
endless-minus (inf true) a b = refl
endless-minus (inf false) a b = absurd a
endless-minus (fin s m e) a b = absurd b

minus : (x : Float) → T (positive (neg x)) → neg (narrow binary32 (neg x)) ≡ narrow binary32 x
unfolding narrow neg
minus nan p = absurd p
minus (inf s) p = absurd p
minus (fin false m e) p = absurd p
minus (fin true m e) p = neg_round binary32 (m * up e) (down e)

-- a zero
zero-fits : (x : Float) → T (fits binary64 x) → T (eq x null) → T (fits binary32 x && not (is_nan x))
unfolding fits is_nan eq
zero-fits nan F a = absurd a
zero-fits (inf s) F a = absurd a
zero-fits (fin s zero e) F a = and_i (eqb (up e * down e) 1) true F tt
zero-fits (fin s (suc m) e) F a = absurd (not_zero s m e a)

zero-narrow : (x : Float) → T (fits binary64 x) → T (eq x null) → x ≡ narrow binary32 x
unfolding narrow
zero-narrow nan F a = refl
zero-narrow (inf s) F a = refl
zero-narrow (fin s zero e) F a =
    let n = 0 * up e in
    let z : n ≡ 0 = zero-mul (up e) in
    let is : round binary32 s n (down e) ≡ round binary32 s 0 1 = round_same binary32 s n (down e) 0 1 (down_pos e) (zero-lt-suc 0) (mul-one n ∙ z ∙ sym (zero-mul (down e))) in
    whole_unique binary32 (fin s 0 e) (round binary32 s 0 1) s 0 (and_l (fits binary32 (fin s 0 e)) (not (is_nan (fin s 0 e))) (zero-fits (fin s 0 e) F a)) (round-fits binary32 s 0 1) (refl, mul-one n ∙ z ∙ sym (zero-mul (down e))) (round_whole binary32 s 0 zero-le)
    ∙ sym is
zero-narrow (fin s (suc m) e) F a = absurd (not_zero s m e a)

nan_is : (x : Float) → T (not (lt null x)) → T (not (lt x null)) → T (not (eq x null)) → nan ≡ narrow binary32 x
unfolding lt narrow
nan_is nan a b d = refl
nan_is (inf true) a b d = absurd b
nan_is (inf false) a b d = absurd a
nan_is (fin s zero e) a b d = absurd (T_not (eq (fin s 0 e) null) d (zero_is s e))
nan_is (fin false (suc m) e) a b d = absurd (T_not (lt null (fin false (suc m) e)) a (over m e))
nan_is (fin true (suc m) e) a b d = absurd (T_not (lt (fin true (suc m) e) null) b (under m e))

turned : (x : Float) → T (lt x null) → T (lt (neg x) (inf false)) → T (positive (neg x))
turned x a b = above (neg x) (inf false) (flipped x a) b

pub narrow_above-requires : goal.narrow_above-requires
unfolding of_bits div
narrow_above-requires c = above c.args.x (inf false) (yes c.if-x.true) (yes c.if-x-2.true)

pub narrow_above-requires-then-a : goal.narrow_above-requires-then-a
unfolding of_bits div
narrow_above-requires-then-a c = turned c.args.x (yes c.if-x-3.true) (yes c.if-a.true)

pub float_to_float-result : goal.float_to_float-result
unfolding of_bits
float_to_float-result c = zero-fits c.args.x (yes c.well_formed.0.1) (yes c.if-x-4.true)

pub returns-else-x-2 : goal.returns-else-x-2
unfolding of_bits div
returns-else-x-2 c = endless c.args.x (yes c.if-x.true) (no c.if-x-2.false)

pub returns-then-a : goal.returns-then-a
unfolding of_bits div
returns-then-a c =
    let x = c.args.x in
    ap neg c.narrow_above-then-a.ensures ∙ minus x (turned x (yes c.if-x-3.true) (yes c.if-a.true))

pub returns-else-a : goal.returns-else-a
unfolding of_bits div neg
returns-else-a c = endless-minus c.args.x (yes c.if-x-3.true) (no c.if-a.false)

pub returns-then-x-4 : goal.returns-then-x-4
unfolding of_bits
returns-then-x-4 c = zero-narrow c.args.x (yes c.well_formed.0.1) (yes c.if-x-4.true)

pub returns-else-x-4 : goal.returns-else-x-4
unfolding of_bits div
returns-else-x-4 c = nan_is c.args.x (no c.if-x.false) (no c.if-x-3.false) (no c.if-x-4.false)
