-- Laws of the values of starts: the whole number of a fit start, and the difference of two.
use mathlib.Core.Path.{◌≡◌, refl}
use mathlib.Core.Bool.{Bool, true, false, cond}
use Prim.Native.Nat.{ℕ, zero, suc, ◌+◌, ◌-◌, ◌*◌, ◌/◌, ◌%◌, ◌^◌, ◌≤◌, ◌<◌, min}
use native.Mathlib.Nat.{min-le_left, mul-pos}
use native.Mathlib.Omega.{arith}
use lib.Dec.{T, ltb}
use lib.IntN.{ℤ, pos, negsuc, nat_abs, neg_ℤ, ◌-ℤ◌, ◌+ℤ◌}
use lib.Signed.{mag}
use lib.Ieee.{Float, nan, inf, fin, binary32, up, down, lt, of_bits, of_int, to_signed, to_unsigned, whole, in_unsigned, fits}
use lib.Ieee.Back.{Float-back_signed}
use lib.Ieee.Fits.{up_pos}
use mir.Syntax.{w32}
use mir.Val.{SFits}
use borrow.Author.Tests.{lt-ltb, le-leb, ltb-false, eq-eqb}
use Rattle.write_judge.specs.Judge.{unfit, unfit_as}
use Rattle.write_judge.proofs.Checks.{neither}
use Rattle.write_judge.proofs.Starts.{fit_of, unfit_nan, unfit_inf, clash, fit_signed, abs_neg}
use Rattle.write_steps.specs.Steps.{whole_of}

-- the whole number of a start that is fit is small
pub fit_small : (x : Float) → unfit x ≡ false → nat_abs (whole_of x) < 2 ^ 23
unfolding to_signed
fit_small nan h = clash unfit_nan h
fit_small (inf s) h = clash (unfit_inf s) h
fit_small (fin true m e) h =
    let f = fit_of true m e h in
    let q = m * up e / down e in
    omega (arith, f.small, abs_neg (min q (2 ^ 31)), min-le_left q (2 ^ 31))
fit_small (fin false m e) h =
    let f = fit_of false m e h in
    let q = m * up e / down e in
    omega (arith, f.small, min-le_left q (2 ^ 31 - 1))

-- a number that is fit is the f32 of its whole number
pub fit_back : (x : Float) → T (fits binary32 x) → unfit x ≡ false → of_int binary32 (whole_of x) ≡ x
fit_back x f h = (Float-back_signed binary32 31 x f (fit_signed 31 (omega arith) x h)).1

-- a first start is a whole number from 0 on
pub first_signed : (x : Float) → unfit_as true x ≡ false → (T (in_unsigned binary32 32 x)) × (to_unsigned 32 x ≡ nat_abs (whole_of x)) × (pos (nat_abs (whole_of x)) ≡ whole_of x)
unfolding unfit_as in_unsigned whole to_unsigned to_signed lt of_bits
first_signed nan h = clash unfit_nan (neither (unfit nan) _ h).0
first_signed (inf s) h = clash (unfit_inf s) (neither (unfit (inf s)) _ h).0
first_signed (fin false m e) h =
    let f = fit_of false m e (neither (unfit (fin false m e)) _ h).0 in
    let q = m * up e / down e in (
      rw (eq-eqb (m * up e % down e) 0 f.even, le-leb q (2 ^ 24) (omega (arith, f.small)), lt-ltb q (2 ^ 32) (omega (arith, f.small))) tt,
      omega (arith, f.small),
      refl,
    )
first_signed (fin true zero e) h = clash refl (fit_of true zero e (neither (unfit (fin true zero e)) _ h).0).signed
first_signed (fin true (suc m) e) h =
    let n = neither (unfit (fin true (suc m) e)) _ h in
    let z = ltb-false 0 (suc m * up e * 1 + 0 * down e) n.1 in
    let k : 0 < suc m * up e = mul-pos (omega arith) (up_pos e) in
    absurd (omega arith)

-- the size of a difference
mag_sub : (a b : ℕ) (t : Bool) → mag (cond t (negsuc (b - suc a)) (pos (a - b))) ≤ a + b
mag_sub a b true = omega arith
mag_sub a b false = omega arith

mag_sum : (x y : ℤ) → mag (x +ℤ y) ≤ mag x + mag y + 1
mag_sum (pos a) (pos b) = omega arith
mag_sum (pos a) (negsuc b) = omega (arith, mag_sub a (suc b) (ltb a (suc b)))
mag_sum (negsuc a) (pos b) = omega (arith, mag_sub b (suc a) (ltb b (suc a)))
mag_sum (negsuc a) (negsuc b) = omega arith

mag_abs : (z : ℤ) → mag z ≤ nat_abs z
mag_abs (pos n) = omega arith
mag_abs (negsuc n) = omega arith

mag_neg : (z : ℤ) → mag (neg_ℤ z) ≤ nat_abs z
mag_neg (pos zero) = omega arith
mag_neg (pos (suc n)) = omega arith
mag_neg (negsuc n) = omega arith

-- a whole number of a start is an i32, and so is a difference of two
pub fit_fits : (x : Float) → unfit x ≡ false → SFits w32 (whole_of x)
fit_fits x u = record { sfits = omega (arith, fit_small x u, mag_abs (whole_of x)) }

pub apart_fits : (x y : Float) → unfit x ≡ false → unfit y ≡ false → SFits w32 (whole_of x -ℤ whole_of y)
apart_fits x y u v =
    record {
      sfits = omega (arith, fit_small x u, fit_small y v, mag_abs (whole_of x), mag_neg (whole_of y), mag_sum (whole_of x) (neg_ℤ (whole_of y)));
    }

-- Assumes nothing.
