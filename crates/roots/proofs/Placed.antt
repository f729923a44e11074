-- The pattern of q * 2 ^ w of the smallest values of an f32, for a q of 24 digits or 2 ^ 24: the field and the digits are one sum.
use mathlib.Core.Path.{◌≡◌, refl, sym, ap, ◌∙◌, subst}
use mathlib.Core.Logic.{inl, inr}
use mathlib.Core.Bool.{Bool, false, not}
use Prim.Native.Nat.{ℕ, suc, ◌+◌, ◌-◌, ◌*◌, ◌/◌, ◌%◌, ◌^◌, ◌≤◌, ◌<◌}
use native.Mathlib.Nat.{lt_of_le_of_lt, eq-or-lt_of_le, mul-le-mul_right, le_of_eq}
use native.Mathlib.Omega.{arith}
use lib.Dec.{T, ltb, eqb, eqb→eq, not_T}
use lib.Pow.{pow-add, pow_pos, pow-lt}
use lib.Ieee.{Float, inf, binary32, odd, units, fits, of_fields, of_bits, nan_bits}
use lib.Ieee.Bits.{cond_no, of_bits-fits, nan_bits_is}
use lib.Ieee.Fits.{odd-fits, inf-fits, cond-fits}
use lib.Ieee.Exact.{HasValue, odd_sign, units_val}
use Rattle.numbers.proofs.Unique.{value_unique}
use Rattle.to_f32.proofs.Pattern.{plain, valued}

-- ---- a field j + 1 that is not the last, and digits d
fields_are : (j d : ℕ) → j < 254 → of_fields binary32 false (suc j) d ≡ odd 24 false (2 ^ 23 + d) j 149
unfolding of_fields
fields_are j d h = cond_no (eqb (suc j) 255) _ _ (not_T (eqb (suc j) 255) (λ t. go j h (eqb→eq (suc j) 255 t)))
  where
    go : (j : ℕ) → j < 254 → suc j ≡ 255 → ⊥
    go j h e = omega arith

module _ (j d : ℕ) (field : j < 254) (digits : d < 2 ^ 23) where
  abbrev b : ℕ
  b = suc j * 2 ^ 23 + d

  small : b < 2 ^ 31
  small = go field digits
    where
      go : j < 254 → d < 8388608 → suc j * 8388608 + d < 2147483648
      go u v = omega arith

  field_is : b / 2 ^ 23 ≡ suc j
  field_is = go digits
    where
      go : d < 8388608 → (suc j * 8388608 + d) / 8388608 ≡ suc j
      go v = omega arith

  digits_are : b % 2 ^ 23 ≡ d
  digits_are = go digits
    where
      go : d < 8388608 → (suc j * 8388608 + d) % 8388608 ≡ d
      go v = omega arith

  read : of_bits binary32 b ≡ odd 24 false (2 ^ 23 + d) j 149
  read =
      plain b small
      ∙ ap (λ (z : ℕ). of_fields binary32 false z (b % 2 ^ 23)) field_is
      ∙ ap (λ (z : ℕ). of_fields binary32 false (suc j) z) digits_are
      ∙ fields_are j d field

  pub normal_value : HasValue (of_bits binary32 (suc j * 2 ^ 23 + d)) false ((2 ^ 23 + d) * 2 ^ j) (2 ^ 149)
  normal_value = subst (λ (x : Float). HasValue x false ((2 ^ 23 + d) * 2 ^ j) (2 ^ 149)) (sym read) (odd_sign 24 false (2 ^ 23 + d) j 149)

-- ---- q * 2 ^ w
module _ (q w : ℕ) (lo : 2 ^ 23 ≤ q) (hi : q ≤ 2 ^ 24) (room : w < 253) where
  abbrev c : ℕ
  c = w * 2 ^ 23 + q

  value_at : (j d : ℕ) → j < 254 → d < 2 ^ 23 → suc j * 2 ^ 23 + d ≡ c → (2 ^ 23 + d) * 2 ^ j ≡ q * 2 ^ w → HasValue (of_bits binary32 c) false (q * 2 ^ w) (2 ^ 149)
  value_at j d J D e v = subst (λ (z : ℕ). HasValue (of_bits binary32 z) false (q * 2 ^ w) (2 ^ 149)) e (subst (λ (z : ℕ). HasValue (of_bits binary32 (suc j * 2 ^ 23 + d)) false z (2 ^ 149)) v (normal_value j d J D))

  pub pattern_value : HasValue (of_bits binary32 (w * 2 ^ 23 + q)) false (q * 2 ^ w) (2 ^ 149)
  pattern_value = elim (eq-or-lt_of_le hi) [
    | inl e ↦ value_at (suc w) 0 (go1 room) (pow_pos 23) (go2 e) (sym (pow-add 2 23 (suc w)) ∙ ap (λ (z : ℕ). 2 ^ z) (go3 w) ∙ pow-add 2 24 w ∙ ap (λ (z : ℕ). z * 2 ^ w) (sym e))
    | inr l ↦ value_at w (q - 2 ^ 23) (go4 room) (go5 lo l) (go6 lo) (ap (λ (z : ℕ). z * 2 ^ w) (go7 lo))
  ]
    where
      go1 : w < 253 → suc w < 254
      go1 h = omega arith

      go2 : q ≡ 16777216 → suc (suc w) * 8388608 + 0 ≡ w * 8388608 + q
      go2 h = omega arith

      go3 : (w : ℕ) → 23 + suc w ≡ 24 + w
      go3 w = omega arith

      go4 : w < 253 → w < 254
      go4 h = omega arith

      go5 : 8388608 ≤ q → q < 16777216 → q - 8388608 < 8388608
      go5 h l = omega arith

      go6 : 8388608 ≤ q → suc w * 8388608 + (q - 8388608) ≡ w * 8388608 + q
      go6 h = omega arith

      go7 : 8388608 ≤ q → 8388608 + (q - 8388608) ≡ q
      go7 h = omega arith

  under : q * 2 ^ w < 2 ^ 277
  under = lt_of_le_of_lt (mul-le-mul_right (2 ^ w) hi) (lt_of_le_of_lt (le_of_eq (sym (pow-add 2 24 w))) (pow-lt (go room)))
    where
      go : w < 253 → 24 + w < 277
      go h = omega arith

  units_fit : T (fits binary32 (units binary32 false q w))
  unfolding units
  units_fit = cond-fits binary32 (ltb (q * 2 ^ w) (2 ^ 277)) (odd 25 false q w 149) (inf false) (odd-fits binary32 25 false q w (lt_of_le_of_lt hi (pow-lt (go))) hi under) (inf-fits binary32 false)
    where
      go : 24 < 25
      go = omega arith

  pub pattern_is : of_bits binary32 (w * 2 ^ 23 + q) ≡ units binary32 false q w
  pattern_is = value_unique binary32 (of_bits binary32 c) (units binary32 false q w) false (q * 2 ^ w) (2 ^ 149) (q * 2 ^ w) (2 ^ 149) (pow_pos 149) (pow_pos 149) (of_bits-fits binary32 c) units_fit pattern_value (units_val binary32 false q w under) refl

  pub pattern_no_nan : T (not (nan_bits binary32 (w * 2 ^ 23 + q)))
  pattern_no_nan = subst (λ (t : Bool). T (not t)) (sym (nan_bits_is binary32 c)) (valued (of_bits binary32 c) false (q * 2 ^ w) (2 ^ 149) pattern_value)

-- Assumes nothing.
