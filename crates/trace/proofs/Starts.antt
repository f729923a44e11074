-- Laws of the starts of a file: a float that is no misfit is a whole number from -2^23 up to but not including 2^23, and such a number's float is none.
use mathlib.Core.Path.{◌≡◌, refl, sym, ap, subst, ◌∙◌}
use mathlib.Core.Bool.{Bool, true, false, not, cond, ◌||◌, ◌&&◌}
use Prim.Native.Nat.{ℕ, zero, suc, ◌+◌, ◌-◌, ◌*◌, ◌/◌, ◌%◌, ◌^◌, ◌≤◌, ◌<◌, min}
use native.Mathlib.Nat.{div-lt_iff_lt-mul, min-le_left, mul-one, mul-mod_left, mul-lt-mul_of_pos_right, mul-le-mul_right}
use native.Mathlib.Omega.{arith}
use lib.Dec.{T, eqb, ltb, leb, le→leb, lt→ltb}
use lib.IntN.{ℤ, pos, negsuc, neg_ℤ}
use lib.Signed.{mag}
use lib.Ieee.{Float, nan, inf, fin, binary32, up, down, round, of_int, to_signed, whole, in_signed, in_float, fits}
use lib.Ieee.Exact.{HasValue}
use lib.Ieee.Back.{round_whole, Float-back_signed, positive_back, negative_back}
use lib.Ieee.Fits.{down_pos}
use borrow.Author.Tests.{lt-ltb, le-ltb, le-leb, lt-leb, ltb-false, leb-false, eq-eqb, ne_eqb, eqb-true, not-false}
use Rattle.list.specs.Steps.{f32_of}
use Rattle.writer.specs.Write.{whole_of}
use Rattle.write_judge.proofs.Checks.{neither}
use Rattle.trace.specs.Write.{misfit}

-- ---- a float that is no misfit

-- in range, whole, and not minus zero
record Fit (s : Bool) (m : ℕ) (e : ℤ) : Type 0 where
  pub near : m * up e ≤ 2 ^ 23 * down e
  pub above : s ≡ false → m * up e < 2 ^ 23 * down e
  pub even : m * up e % down e ≡ 0
  pub signed : (s && eqb m 0) ≡ false
  pub small : m * up e / down e ≤ 2 ^ 23

fit_of : (s : Bool) (m : ℕ) (e : ℤ) → misfit (fin s m e) ≡ false → Fit s m e
unfolding misfit
fit_of s m e h =
    let a = neither (cond s (ltb (2 ^ 23 * down e) (m * up e)) (leb (2 ^ 23 * down e) (m * up e))) (not (eqb (m * up e % down e) 0) || (s && eqb m 0)) h in
    let b = neither (not (eqb (m * up e % down e) 0)) (s && eqb m 0) a.1 in
    let n : m * up e ≤ 2 ^ 23 * down e = near s a.0 in
    let k = down_pos e in
    let q : m * up e / down e < 2 ^ 23 + 1 = (div-lt_iff_lt-mul k).1 (omega arith) in
    record {
      near = n;
      above = λ f. above s f a.0;
      even = eqb-true (m * up e % down e) 0 (not-false _ b.0);
      signed = b.1;
      small = omega arith;
    }
  where
    near : (s : Bool) → cond s (ltb (2 ^ 23 * down e) (m * up e)) (leb (2 ^ 23 * down e) (m * up e)) ≡ false → m * up e ≤ 2 ^ 23 * down e
    near true w = ltb-false (2 ^ 23 * down e) (m * up e) w
    near false w = omega (arith, leb-false (2 ^ 23 * down e) (m * up e) w)

    above : (s : Bool) → s ≡ false → cond s (ltb (2 ^ 23 * down e) (m * up e)) (leb (2 ^ 23 * down e) (m * up e)) ≡ false → m * up e < 2 ^ 23 * down e
    above true f w = absurd (subst T f tt)
    above false f w = leb-false (2 ^ 23 * down e) (m * up e) w

no_nan : {X : Type 0} → misfit nan ≡ false → X
unfolding misfit
no_nan h = absurd (subst T h tt)

no_inf : {X : Type 0} (s : Bool) → misfit (inf s) ≡ false → X
unfolding misfit
no_inf s h = absurd (subst T h tt)

-- it may be cast to an i32
pub fit_signed : (x : Float) → misfit x ≡ false → T (in_signed binary32 31 x)
unfolding in_signed whole
fit_signed nan u = no_nan u
fit_signed (inf s) u = no_inf s u
fit_signed (fin true m e) u =
    let f = fit_of true m e u in
    let q = m * up e / down e in
    rw (eq-eqb (m * up e % down e) 0 f.even, le-leb q (2 ^ 24) (omega (arith, f.small)), f.signed, le-leb q (2 ^ 31) (omega (arith, f.small))) tt
fit_signed (fin false m e) u =
    let f = fit_of false m e u in
    let q = m * up e / down e in
    rw (eq-eqb (m * up e % down e) 0 f.even, le-leb q (2 ^ 24) (omega (arith, f.small)), lt-ltb q (2 ^ 31) (omega (arith, f.small))) tt

-- its whole number is in range
pub fit_small : (x : Float) → misfit x ≡ false → mag (whole_of x) < 2 ^ 23
unfolding to_signed
fit_small nan u = no_nan u
fit_small (inf s) u = no_inf s u
fit_small (fin true m e) u = below (min (m * up e / down e) (2 ^ 31)) (omega (arith, (fit_of true m e u).small, min-le_left (m * up e / down e) (2 ^ 31)))
  where
    below : (n : ℕ) → n ≤ 2 ^ 23 → mag (neg_ℤ (pos n)) < 2 ^ 23
    below zero h = omega arith
    below (suc n) h = omega arith
fit_small (fin false m e) u =
    let f = fit_of false m e u in
    let k = down_pos e in
    let q : m * up e / down e < 2 ^ 23 = (div-lt_iff_lt-mul k).1 (f.above refl) in
    omega (arith, min-le_left (m * up e / down e) (2 ^ 31 - 1))

-- it is the f32 of its whole number
pub fit_back : (x : Float) → T (fits binary32 x) → misfit x ≡ false → f32_of (whole_of x) ≡ x
unfolding f32_of
fit_back x f u = (Float-back_signed binary32 31 x f (fit_signed x u)).1

-- ---- the float of a whole number in range

value_fit : (x : Float) (s : Bool) (n : ℕ) → n ≤ 2 ^ 23 → (s ≡ false → n < 2 ^ 23) → (s ≡ true → 0 < n) → HasValue x s n 1 → misfit x ≡ false
unfolding misfit
value_fit nan s n h l g v = absurd v
value_fit (inf t) s n h l g v = absurd v
value_fit (fin t m e) s n h l g v =
    let is : m * up e ≡ n * down e = sym (mul-one (m * up e)) ∙ v.1 in
    let r : m * up e % down e ≡ 0 = ap (λ (u : ℕ). u % down e) is ∙ mul-mod_left n (down e) in
    rw (in_range_lem t (λ p. l (sym v.0 ∙ p)) is, eq-eqb (m * up e % down e) 0 r) (plain t m is (λ p. g (sym v.0 ∙ p)))
  where
    in_range_lem : (t : Bool) → (t ≡ false → n < 2 ^ 23) → m * up e ≡ n * down e → cond t (ltb (2 ^ 23 * down e) (m * up e)) (leb (2 ^ 23 * down e) (m * up e)) ≡ false
    in_range_lem true l is = le-ltb (2 ^ 23 * down e) (m * up e) (omega (arith, mul-le-mul_right (down e) h))
    in_range_lem false l is = lt-leb (2 ^ 23 * down e) (m * up e) (omega (arith, mul-lt-mul_of_pos_right (l refl) (down_pos e)))

    plain : (t : Bool) (m : ℕ) → m * up e ≡ n * down e → (t ≡ true → 0 < n) → (t && eqb m 0) ≡ false
    plain false m is g = refl
    plain true zero is g = let b : 0 * down e < n * down e = mul-lt-mul_of_pos_right (g refl) (down_pos e) in absurd (omega arith)
    plain true (suc m) is g = ne_eqb (suc m) 0 (λ z. omega arith)

pub whole_fit : (z : ℤ) → mag z < 2 ^ 23 → misfit (f32_of z) ≡ false
unfolding f32_of of_int
whole_fit (pos n) h = value_fit (round binary32 false n 1) false n (omega arith) (λ f. h) (λ p. absurd (subst T (sym p) tt)) (round_whole binary32 false n (omega arith))
whole_fit (negsuc n) h = value_fit (round binary32 true (suc n) 1) true (suc n) h (λ f. absurd (subst T f tt)) (λ p. omega arith) (round_whole binary32 true (suc n) (omega arith))

pub whole_back : (z : ℤ) → mag z < 2 ^ 23 → whole_of (f32_of z) ≡ z
unfolding f32_of in_float
whole_back (pos n) h = (positive_back binary32 31 n (le→leb n (2 ^ 24) (omega arith)) (omega arith)).1
whole_back (negsuc n) h = (negative_back binary32 31 n (lt→ltb n (2 ^ 24) (omega arith)) (omega arith)).1

-- Assumes nothing.
