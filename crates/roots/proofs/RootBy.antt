-- The root of a normal f32 from its pattern: a number that passes the two tests is the nearest root, and the sum of the root's place and digits is its pattern.
use mathlib.Core.Path.{◌≡◌, refl, sym, ap, ◌∙◌, subst}
use mathlib.Core.Logic.{◌⊎◌, inl, inr}
use mathlib.Core.Bool.{Bool, true, false, not}
use Prim.Native.Nat.{ℕ, zero, suc, ◌+◌, ◌-◌, ◌*◌, ◌/◌, ◌%◌, ◌^◌, ◌≤◌, ◌<◌}
use native.Mathlib.Nat.{le_trans, le_of_eq, lt_irrefl, lt_of_lt_of_le, mul_assoc, mul-le-mul, mul-lt-mul_of_pos_right, not-le_of_lt}
use native.Mathlib.Omega.{arith}
use lib.Dec.{T, leb, leb→le, nleb→lt}
use lib.Pow.{pow-add, pow_pos, pow_mono, shl_lt}
use lib.Ieee.{Float, binary32, fits, le, of_bits, to_bits, nan_bits}
use lib.Ieee.Exact.{HasValue}
use lib.Ieee.Positive.{positive, values_of_le, between}
use Rattle.roots.specs.Root.{nearest_root, sqrt_of, root_of}
use Rattle.to_f32.specs.Digits.{Split}
use Rattle.roots.proofs.Roots.{kept, raised, next_square}
use Rattle.roots.proofs.RootOf.{sqrt_at, root_at, q_ge, q_le}
use Rattle.to_f32.proofs.Pattern.{low_split, high_split}
use Rattle.roots.specs.RootBy.{whole_bits, place_bits, root_bits}
use Rattle.roots.proofs.Laid.{revalue}
use Rattle.roots.proofs.Placed.{pattern_is, pattern_no_nan}

-- ---- the exact test
module _ (n : ℕ) where
  over : (r : ℕ) → r * r ≤ n → n ≤ r * r + r → r ≡ nearest_root n
  over r l h = kept n r (record { low = l; high = go (r * r) ((r + 1) * (r + 1)) (next_square r) h }) (go2 (r * r) l h)
    where
      go : (s t : ℕ) → t ≡ s + 2 * r + 1 → n ≤ s + r → n < t
      go s t e h = omega arith

      go2 : (s : ℕ) → s ≤ n → n ≤ s + r → n - s ≤ r
      go2 s l h = omega arith

  under : (q : ℕ) → n < (q + 1) * (q + 1) → (q + 1) * (q + 1) < n + (q + 1) → q + 1 ≡ nearest_root n
  under q l h = raised n q (record { low = go (q * q) ((q + 1) * (q + 1)) (next_square q) h; high = l }) (go2 (q * q) ((q + 1) * (q + 1)) (next_square q) h)
    where
      go : (s t : ℕ) → t ≡ s + 2 * q + 1 → t < n + (q + 1) → s ≤ n
      go s t e h = omega arith

      go2 : (s t : ℕ) → t ≡ s + 2 * q + 1 → t < n + (q + 1) → q < n - s
      go2 s t e h = omega arith

  -- n lies on one side of the square of r
  sides : (r : ℕ) (t : Bool) → (T t → r * r ≤ n) → (T (not t) → n < r * r) → n ≤ r * r + r → r * r < n + r → r ≡ nearest_root n
  sides r true y z a b = over r (y tt) a
  sides zero false y z a b = absurd (go (z tt))
    where
      go : n < 0 * 0 → ⊥
      go h = omega arith
  sides (suc q) false y z a b = step (suc q) (go q) (z tt) b
    where
      go : (q : ℕ) → suc q ≡ q + 1
      go q = omega arith

      step : (r : ℕ) → r ≡ q + 1 → n < r * r → r * r < n + r → r ≡ nearest_root n
      step r e l b = e ∙ under q (subst (λ (z : ℕ). n < z * z) e l) (subst (λ (z : ℕ). z * z < n + z) e b)

  tested : (r : ℕ) → n ≤ r * r + r → r * r < n + r → r ≡ nearest_root n
  tested r = sides r (leb (r * r) n) (leb→le (r * r) n) (nleb→lt (r * r) n)

-- ---- the numbers of a pattern
module _ (b : ℕ) where
  whole_lo : 2 ^ 46 ≤ whole_bits b
  whole_lo = le_trans (le_of_eq (pow-add 2 23 23)) (mul-le-mul (go (b % 2 ^ 23)) (pow_mono (go2 (b / 2 ^ 23))))
    where
      go : (t : ℕ) → 8388608 ≤ t + 8388608
      go t = omega arith

      go2 : (f : ℕ) → 23 ≤ 24 - f % 2
      go2 f = omega arith

  whole_hi : whole_bits b < 2 ^ 48
  whole_hi = lt_of_lt_of_le (shl_lt 24 (24 - b / 2 ^ 23 % 2) (go b)) (pow_mono (go2 (b / 2 ^ 23)))
    where
      go : (b : ℕ) → b % 8388608 + 8388608 < 16777216
      go b = omega arith

      go2 : (f : ℕ) → 24 + (24 - f % 2) ≤ 48
      go2 f = omega arith

  place_lt : b < 2139095040 → place_bits b < 253
  place_lt h = go b h
    where
      go : (b : ℕ) → b < 2139095040 → (b / 8388608 + 125) / 2 < 253
      go b h = omega arith

  abbrev r : ℕ
  r = nearest_root (whole_bits b)

  r_lo : 2 ^ 23 ≤ r
  r_lo = q_ge binary32 (whole_bits b) whole_lo whole_hi

  r_hi : r ≤ 2 ^ 24
  r_hi = q_le binary32 (whole_bits b) whole_lo whole_hi

  pub rooted_bits : b < 2139095040 → of_bits binary32 (root_bits b) ≡ root_of binary32 (whole_bits b * 2 ^ (2 * place_bits b))
  rooted_bits h = pattern_is r (place_bits b) r_lo r_hi (place_lt h) ∙ sym (root_at binary32 (whole_bits b) whole_lo whole_hi (place_bits b))

  rooted_no_nan : b < 2139095040 → T (not (nan_bits binary32 (root_bits b)))
  rooted_no_nan h = pattern_no_nan r (place_bits b) r_lo r_hi (place_lt h)

-- ---- what the code works out: the digits m, doubled where the field is even, and the sum of place and digits
pub whole_is : (b m : ℕ) → ((b % 16777216 < 8388608) × (m ≡ b % 16777216 + b % 16777216 + 16777216)) ⊎ ((8388608 ≤ b % 16777216) × (m ≡ b % 16777216)) → m * 8388608 ≡ whole_bits b
whole_is b m (inl h) = go b m h.0 h.1 ∙ ap (λ (z : ℕ). (b % 2 ^ 23 + 2 ^ 23) * 2 ^ (24 - z)) (sym (even b h.0))
  where
    even : (b : ℕ) → b % 16777216 < 8388608 → b / 8388608 % 2 ≡ 0
    even b h = omega arith

    go : (b m : ℕ) → b % 16777216 < 8388608 → m ≡ b % 16777216 + b % 16777216 + 16777216 → m * 8388608 ≡ (b % 8388608 + 8388608) * 16777216
    go b m h e = omega arith
whole_is b m (inr h) = go b m h.0 h.1 ∙ ap (λ (z : ℕ). (b % 2 ^ 23 + 2 ^ 23) * 2 ^ (24 - z)) (sym (odd b h.0))
  where
    odd : (b : ℕ) → 8388608 ≤ b % 16777216 → b / 8388608 % 2 ≡ 1
    odd b h = omega arith

    go : (b m : ℕ) → 8388608 ≤ b % 16777216 → m ≡ b % 16777216 → m * 8388608 ≡ (b % 8388608 + 8388608) * 8388608
    go b m h e = omega arith

sum_is : (b r : ℕ) → (b + 1065353216) / 16777216 * 8388608 + r - 8388608 ≡ place_bits b * 2 ^ 23 + r
sum_is b r = go b r
  where
    go : (b r : ℕ) → (b + 1065353216) / 16777216 * 8388608 + r - 8388608 ≡ (b / 8388608 + 125) / 2 * 8388608 + r
    go b r = omega arith

-- r passes the two tests, with what the code makes of it: q, its square, and s and t, which are r as wider numbers
pub passed :
    (b n q r s t : ℕ)
    → n ≡ whole_bits b
    → q ≡ r * r
    → s ≡ r
    → t ≡ r
    → n ≤ q + s
    → q < n + t
    → (b + 1065353216) / 16777216 * 8388608 + r - 8388608 ≡ root_bits b
passed b n q r s t whole square left right low high =
    let at_most : n ≤ r * r + r = omega arith in
    let at_least : r * r < n + r = omega arith in
    sum_is b r ∙ ap (λ (z : ℕ). place_bits b * 2 ^ 23 + z) (tested n r at_most at_least ∙ ap nearest_root whole)

-- ---- from the smallest normal value to the largest value
abbrev pub least : Float
least = of_bits binary32 8388608

abbrev pub most : Float
most = of_bits binary32 2139095039

module _ (x : Float) (F : T (fits binary32 x)) (a : T (le least x)) (z : T (le x most)) where
  pub above : T (positive x)
  unfolding of_bits
  above = between least x most tt tt a z

  abbrev b : ℕ
  b = to_bits binary32 x

  least_value : HasValue least false (2 ^ 23) (2 ^ 149)
  unfolding of_bits
  least_value = (refl, refl)

  least_positive : T (positive least)
  unfolding of_bits
  least_positive = tt

  normal : b / 2 ^ 23 ≡ 0 → ⊥
  normal e =
      let s : Split binary32 x (b % 2 ^ 23) 0 = low_split binary32 x F above e in
      let m : 2 ^ 23 * 2 ^ 149 ≤ b % 2 ^ 23 * 2 ^ 0 * 2 ^ 149 = values_of_le least x (2 ^ 23) (2 ^ 149) (b % 2 ^ 23 * 2 ^ 0) (2 ^ 149) least_positive above least_value s.value a in
      not-le_of_lt (mul-lt-mul_of_pos_right (go b) (pow_pos 149)) m
    where
      go : (b : ℕ) → b % 8388608 * 1 < 8388608
      go b = omega arith

  exponents : (f : ℕ) → (f ≡ 0 → ⊥) → f - 1 + 298 ≡ 24 - f % 2 + 2 * ((f + 125) / 2) + 149
  exponents f h = omega arith

  same : (b % 2 ^ 23 + 2 ^ 23) * 2 ^ (b / 2 ^ 23 - 1) * 2 ^ 298 ≡ whole_bits b * 2 ^ (2 * place_bits b) * 2 ^ 149
  same =
      let m = b % 2 ^ 23 + 2 ^ 23 in
      let t = 24 - b / 2 ^ 23 % 2 in
      let v = 2 * place_bits b in
      mul_assoc m (2 ^ (b / 2 ^ 23 - 1)) (2 ^ 298)
      ∙ ap (λ (k : ℕ). m * k) (sym (pow-add 2 (b / 2 ^ 23 - 1) 298) ∙ ap (λ (k : ℕ). 2 ^ k) (exponents (b / 2 ^ 23) normal) ∙ pow-add 2 (t + v) 149 ∙ ap (λ (k : ℕ). k * 2 ^ 149) (pow-add 2 t v))
      ∙ sym (mul_assoc m (2 ^ t * 2 ^ v) (2 ^ 149))
      ∙ ap (λ (k : ℕ). k * 2 ^ 149) (sym (mul_assoc m (2 ^ t) (2 ^ v)))

  valued : HasValue x false (whole_bits b * 2 ^ (2 * place_bits b)) (2 ^ 298)
  valued = revalue x false ((b % 2 ^ 23 + 2 ^ 23) * 2 ^ (b / 2 ^ 23 - 1)) (2 ^ 149) (whole_bits b * 2 ^ (2 * place_bits b)) (2 ^ 298) (pow_pos 149) (high_split binary32 x F above normal).value same

  root_by_bits : b < 2139095040 → of_bits binary32 (root_bits b) ≡ sqrt_of binary32 x
  root_by_bits h = rooted_bits b h ∙ sym (sqrt_at binary32 x (whole_bits b * 2 ^ (2 * place_bits b)) above valued)

-- ---- a pattern that is 0 or the root's own, and is not 0
abbrev pub Found : ℕ → ℕ → Type 0
Found b p = (p ≡ 0) ⊎ ((b < 2139095040) × (p ≡ root_bits b))

pub found_no_nan : (b p : ℕ) → Found b p → 0 < p → T (not (nan_bits binary32 p))
found_no_nan b p (inl e) h = absurd (lt_irrefl 0 (subst (λ (z : ℕ). 0 < z) e h))
found_no_nan b p (inr s) h = subst (λ (z : ℕ). T (not (nan_bits binary32 z))) (sym s.1) (rooted_no_nan b s.0)

module _ (x : Float) (F : T (fits binary32 x)) (a : T (le least x)) (z : T (le x most)) where
  pub found_root : (p : ℕ) → Found (to_bits binary32 x) p → 0 < p → of_bits binary32 p ≡ sqrt_of binary32 x
  found_root p (inl e) h = absurd (lt_irrefl 0 (subst (λ (z : ℕ). 0 < z) e h))
  found_root p (inr s) h = ap (of_bits binary32) s.1 ∙ root_by_bits x F a z s.0

-- Assumes nothing.
