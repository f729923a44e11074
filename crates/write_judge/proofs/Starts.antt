-- Laws of starts: a number is fit exactly when its bits are those of the f32 of a small whole number.
use Rattle.std.proofs.Common.{◌≡◌, ℕ, zero, suc, ◌+◌, ◌-◌, ◌*◌, ◌/◌, ◌%◌, ◌^◌, ◌<◌, ◌≤◌, min, Bool, true, false, not, ◌&&◌, ◌||◌, T, eqb, leb, ℤ, pos, negsuc, neg_ℤ, nat_abs, sym, refl, ap, ◌∙◌, subst, div-lt_iff_lt-mul, mul-lt-mul_of_pos_right, mul-one, arith, le→leb, lt→ltb, ltb-false, ltb-true, lt-ltb, eq-eqb, ne_eqb, eqb-true, le-leb, leb-false}
use native.Mathlib.Nat.{min-le_left, mul-mod_left}
use lib.Ieee.{Float, nan, inf, fin, binary32, up, down, lt, le, eq, of_bits, to_bits, round, of_int, to_signed, whole, in_signed, in_float, fits, is_nan}
use lib.Ieee.Exact.{HasValue}
use lib.Ieee.Back.{round_whole, Float-back_signed}
use lib.Ieee.Bits.{of_bits-to_bits}
use lib.Ieee.Fits.{down_pos, of_int-fits}
use borrow.Author.Tests.{lt-leb, eqb-false, not-false}
use Rattle.write_judge.proofs.Checks.{neither}
use Rattle.write_judge.specs.Judge.{unfit, unfit_as}

-- a finite number that is fit: in range, whole, and not minus zero
pub record Fit (s : Bool) (m : ℕ) (e : ℤ) : Type 0 where
  pub near : m * up e < 2 ^ 23 * down e
  pub even : m * up e % down e ≡ 0
  pub signed : (s && eqb m 0) ≡ false
  pub small : m * up e / down e < 2 ^ 23

pub fit_of : (s : Bool) (m : ℕ) (e : ℤ) → unfit (fin s m e) ≡ false → Fit s m e
unfolding unfit
fit_of s m e h =
    let a = neither (leb (2 ^ 23 * down e) (m * up e)) (not (eqb (m * up e % down e) 0) || (s && eqb m 0)) h in
    let b = neither (not (eqb (m * up e % down e) 0)) (s && eqb m 0) a.1 in
    let n = leb-false (2 ^ 23 * down e) (m * up e) a.0 in
    let k = down_pos e in
    record {
      near = n;
      even = eqb-true (m * up e % down e) 0 (not-false _ b.0);
      signed = b.1;
      small = (div-lt_iff_lt-mul k).1 n;
    }

pub unfit_nan : unfit nan ≡ true
unfolding unfit
unfit_nan = refl

pub unfit_inf : (s : Bool) → unfit (inf s) ≡ true
unfolding unfit
unfit_inf s = refl

pub clash : {X : Type 0} {b : Bool} → b ≡ true → b ≡ false → X
clash p q = absurd (subst T (sym p ∙ q) tt)

-- a number that is fit may be cast to an integer of any width that holds 2^23
pub fit_signed : (h : ℕ) → 2 ^ 23 ≤ 2 ^ h → (x : Float) → unfit x ≡ false → T (in_signed binary32 h x)
unfolding in_signed whole
fit_signed h wide nan u = clash unfit_nan u
fit_signed h wide (inf s) u = clash (unfit_inf s) u
fit_signed h wide (fin true m e) u =
    let f = fit_of true m e u in
    let q = m * up e / down e in
    rw (eq-eqb (m * up e % down e) 0 f.even, le-leb q (2 ^ 24) (omega (arith, f.small)), f.signed, le-leb q (2 ^ h) (omega (arith, f.small))) tt
fit_signed h wide (fin false m e) u =
    let f = fit_of false m e u in
    let q = m * up e / down e in
    rw (eq-eqb (m * up e % down e) 0 f.even, le-leb q (2 ^ 24) (omega (arith, f.small)), lt-ltb q (2 ^ h) (omega (arith, f.small))) tt

pub abs_neg : (n : ℕ) → nat_abs (neg_ℤ (pos n)) ≡ n
abs_neg zero = refl
abs_neg (suc n) = refl

-- a float of a whole number's value is fit
value_fit : (x : Float) (s : Bool) (n : ℕ) → n < 2 ^ 23 → (s ≡ true → 0 < n) → HasValue x s n 1 → unfit x ≡ false
unfolding unfit
value_fit nan s n h g v = absurd v
value_fit (inf t) s n h g v = absurd v
value_fit (fin t m e) s n h g v =
    let k = down_pos e in
    let is : m * up e ≡ n * down e = sym (mul-one (m * up e)) ∙ v.1 in
    let b : n * down e < 2 ^ 23 * down e = mul-lt-mul_of_pos_right h k in
    let r : m * up e % down e ≡ 0 = ap (λ (u : ℕ). u % down e) is ∙ mul-mod_left n (down e) in
    rw (lt-leb (2 ^ 23 * down e) (m * up e) (omega arith), eq-eqb (m * up e % down e) 0 r) (plain t m is (λ p. g (sym v.0 ∙ p)))
  where
    plain : (t : Bool) (m : ℕ) → m * up e ≡ n * down e → (t ≡ true → 0 < n) → (t && eqb m 0) ≡ false
    plain false m is g = refl
    plain true zero is g = let b : 0 * down e < n * down e = mul-lt-mul_of_pos_right (g refl) (down_pos e) in absurd (omega arith)
    plain true (suc m) is g = ne_eqb (suc m) 0 (λ z. omega arith)

pub whole_fit : (z : ℤ) → nat_abs z < 2 ^ 23 → unfit (of_int binary32 z) ≡ false
unfolding of_int
whole_fit (pos n) h = value_fit (round binary32 false n 1) false n h (λ p. absurd (subst T (sym p) tt)) (round_whole binary32 false n (omega arith))
whole_fit (negsuc n) h = value_fit (round binary32 true (suc n) 1) true (suc n) h (λ p. omega arith) (round_whole binary32 true (suc n) (omega arith))

-- a float that is not between -2^23 and 2^23 is unfit
pub far_below : (x : Float) → lt (fin true 1 (pos 23)) x ≡ false → true ≡ unfit x
unfolding lt unfit
far_below nan h = refl
far_below (inf s) h = refl
far_below (fin true m e) h = rw (le-leb (2 ^ 23 * down e) (m * up e) (omega (arith, ltb-false (m * up e * 1) (8388608 * down e) h)))
far_below (fin false m e) h =
    let k = down_pos e in
    absurd (omega (arith, ltb-false 0 (8388608 * down e + m * up e * 1) h))

pub far_above : (x : Float) → lt x (fin false 1 (pos 23)) ≡ false → true ≡ unfit x
unfolding lt unfit
far_above nan h = refl
far_above (inf s) h = refl
far_above (fin false m e) h = rw (le-leb (2 ^ 23 * down e) (m * up e) (omega (arith, ltb-false (m * up e * 1) (8388608 * down e) h)))
far_above (fin true m e) h =
    let k = down_pos e in
    absurd (omega (arith, ltb-false 0 (m * up e * 1 + 8388608 * down e) h))

-- a float between -2^23 and 2^23 has an integer part, which is small
pub record Between (x : Float) : Type 0 where
  pub number : T (not (is_nan x))
  pub above : T (le (fin true 1 (pos 63)) x)
  pub beneath : T (lt x (fin false 1 (pos 63)))
  pub small : nat_abs (to_signed 63 x) < 2 ^ 23

pub between : (x : Float) → lt (fin true 1 (pos 23)) x ≡ true → lt x (fin false 1 (pos 23)) ≡ true → Between x
unfolding lt le eq is_nan to_signed
between nan a b = absurd (subst T (sym a) tt)
between (inf true) a b = absurd (subst T (sym a) tt)
between (inf false) a b = absurd (subst T (sym b) tt)
between (fin true m e) a b =
    let p = ltb-true (m * up e * 1) (8388608 * down e) a in
    let k = down_pos e in
    let q : m * up e / down e < 2 ^ 23 = (div-lt_iff_lt-mul k).1 (omega arith) in
    record {
      number = tt;
      above = rw (lt-ltb (m * up e * 1) (9223372036854775808 * down e) (omega arith)) tt;
      beneath = rw (lt-ltb 0 (m * up e * 1 + 9223372036854775808 * down e) (omega arith)) tt;
      small = omega (arith, abs_neg (min (m * up e / down e) (2 ^ 63)), min-le_left (m * up e / down e) (2 ^ 63));
    }
between (fin false m e) a b =
    let p = ltb-true (m * up e * 1) (8388608 * down e) b in
    let k = down_pos e in
    let q : m * up e / down e < 2 ^ 23 = (div-lt_iff_lt-mul k).1 (omega arith) in
    record {
      number = tt;
      above = rw (lt-ltb 0 (9223372036854775808 * down e + m * up e * 1) (omega arith)) tt;
      beneath = rw (lt-ltb (m * up e * 1) (9223372036854775808 * down e) (omega arith)) tt;
      small = omega (arith, min-le_left (m * up e / down e) (2 ^ 63 - 1));
    }

-- a small whole number is an f32
pub small_float : (z : ℤ) → nat_abs z < 2 ^ 23 → T (in_float binary32 z)
unfolding in_float
small_float (pos n) h = le→leb n (2 ^ 24) (omega arith)
small_float (negsuc n) h = lt→ltb n (2 ^ 24) (omega arith)

-- it is no NaN
pub fit_number : (x : Float) → unfit x ≡ false → T (not (is_nan x))
unfolding is_nan
fit_number nan h = clash unfit_nan h
fit_number (inf s) h = tt
fit_number (fin s m e) h = tt

-- the bits of a number and of its integer part tell whether it is fit
bits_same : (x : Float) → T (fits binary32 x) → nat_abs (to_signed 63 x) < 2 ^ 23 → to_bits binary32 x ≡ to_bits binary32 (of_int binary32 (to_signed 63 x)) → false ≡ unfit x
bits_same x f h e =
    let z = to_signed 63 x in
    let is : x ≡ of_int binary32 z
    = sym (of_bits-to_bits binary32 x f) ∙ ap (of_bits binary32) e ∙ of_bits-to_bits binary32 (of_int binary32 z) (of_int-fits binary32 z) in
    sym (ap unfit is ∙ whole_fit z h)

bits_other : (x : Float) → T (fits binary32 x) → (to_bits binary32 x ≡ to_bits binary32 (of_int binary32 (to_signed 63 x)) → ⊥) → true ≡ unfit x
bits_other x f e = go (unfit x) refl
  where
    go : (b : Bool) → unfit x ≡ b → true ≡ b
    go true h = refl
    go false h = absurd (e (ap (to_bits binary32) (sym (Float-back_signed binary32 63 x f (fit_signed 63 (omega arith) x h)).1)))

pub bits_tell : (x : Float) → T (fits binary32 x) → nat_abs (to_signed 63 x) < 2 ^ 23
    → not (eqb (to_bits binary32 x) (to_bits binary32 (of_int binary32 (to_signed 63 x)))) ≡ unfit x
bits_tell x f h = go (eqb (to_bits binary32 x) (to_bits binary32 (of_int binary32 (to_signed 63 x)))) refl
  where
    go : (b : Bool) → eqb (to_bits binary32 x) (to_bits binary32 (of_int binary32 (to_signed 63 x))) ≡ b → not b ≡ unfit x
    go true e = bits_same x f h (eqb-true _ _ e)
    go false e = bits_other x f (eqb-false _ _ e)

-- a start as the first, and as a later one
pub unfit_any : (first : Bool) (x : Float) → unfit x ≡ true → true ≡ unfit_as first x
unfolding unfit_as
unfit_any true x u = rw u
unfit_any false x u = sym u

pub fit_first : (first : Bool) (x : Float) → first ≡ true → unfit x ≡ false → lt x (of_bits binary32 0) ≡ unfit_as first x
unfolding unfit_as
fit_first true x f u = rw u
fit_first false x f u = clash f refl

pub fit_later : (first : Bool) (x : Float) → first ≡ false → unfit x ≡ false → false ≡ unfit_as first x
unfolding unfit_as
fit_later true x f u = clash refl f
fit_later false x f u = sym u

pub fit_any : (first : Bool) (x : Float) → unfit_as first x ≡ false → unfit x ≡ false
unfolding unfit_as
fit_any true x u = (neither (unfit x) (lt x (of_bits binary32 0)) u).0
fit_any false x u = u

-- Assumes nothing.
