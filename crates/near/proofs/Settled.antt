-- A fraction of at most 2 ^ 22, rounded to an f32, and R of that: each quarter up to 2 ^ 22 is an f32, so the first is off by at most an eighth, and R by at most a half.
use mathlib.Core.Path.{◌≡◌, subst}
use mathlib.Core.Logic.{inl, inr}
use mathlib.Core.Bool.{Bool, true, false, not}
use Prim.Native.Nat.{ℕ, suc, ◌+◌, ◌*◌, ◌/◌, ◌%◌, ◌^◌, ◌≤◌, ◌<◌}
use native.Mathlib.Nat.{le_trans, le_of_lt, lt_of_le_of_lt, lt_of_not-le, le_of_suc-le-suc, eq-or-lt_of_le, mul-le-mul_right, mul-lt-mul_of_pos_right, le_of_mul-le-mul_right, div-mul-le_self, div-add-mod', mod-lt}
use native.Mathlib.Omega.{arith}
use lib.Dec.{T, ltb, ltb→lt, nltb→le, lit<, lit≤}
use lib.Pow.{pow_pos}
use lib.Ieee.{Float, nan, inf, fin, binary32, up, down, round, fits, units}
use lib.Ieee.Fits.{down_pos}
use lib.Ieee.Exact.{HasValue, units_val}
use Rattle.wholes.specs.Whole.{round_of}
use Rattle.ieee754.specs.Ieee754.{too_large, NearestFraction}
use Rattle.ieee754.proofs.Values.{units_held}
use Rattle.ieee754.proofs.NearestEven.{round_nearest}
use Rattle.ieee754.proofs.WholeParts.{whole_parts}

-- ---- R is off by at most a half

-- R of an f32 of the value v / U, as a whole number
record Whole (x : Float) (s : Bool) (v U : ℕ) : Type 0 where
  h : ℕ
  is : HasValue (round_of binary32 x) s h 1
  over : 2 * (h * U) ≤ 2 * v + U
  under : 2 * v ≤ 2 * (h * U) + U

whole_of : (x : Float) (s : Bool) (v U : ℕ) → T (fits binary32 x) → HasValue x s v U → Whole x s v U
whole_of nan s v U F g = absurd g
whole_of (inf t) s v U F g = absurd g
whole_of (fin t m e) s v U F g =
    let r = (whole_parts binary32).round t m e F in
    record {
      h = r.size;
      is = subst (λ (b : Bool). HasValue (round_of binary32 (fin t m e)) b r.size 1) g.0 r.is;
      over = le_of_mul-le-mul_right (over (m * up e) (down e) r.size g.1 (mul-le-mul_right U r.r_within)) (down_pos e);
      under = le_of_mul-le-mul_right (under (m * up e) (down e) r.size g.1 (mul-le-mul_right U r.x_within)) (down_pos e);
    }
  where
    over : (n d h : ℕ) → n * U ≡ v * d → 2 * h * d * U ≤ (2 * n + d) * U → 2 * (h * U) * d ≤ (2 * v + U) * d
    over n d h e l = omega arith

    under : (n d h : ℕ) → n * U ≡ v * d → 2 * n * U ≤ (2 * h + 1) * d * U → 2 * v * d ≤ (2 * (h * U) + U) * d
    under n d h e l = omega arith

-- ---- the f32 nearest to a fraction is off by at most an eighth

module _ (s : Bool) (n D : ℕ) (D-pos : 0 < D) (small : n ≤ 2 ^ 22 * D) (r : Float) (near : NearestFraction binary32 s n D r) where
  -- a quarter, and r, in units of 2 ^ -149
  abbrev U : ℕ
  U = 2 ^ 147

  abbrev v : ℕ
  v = near.size

  -- j quarters are an f32
  module _ (j : ℕ) (few : j ≤ 2 ^ 24) where
    fine : j * U < 2 ^ 277
    fine = lt_of_le_of_lt (mul-le-mul_right U few) (lit< {m = 2 ^ 24 * U} {n = 2 ^ 277} tt)

    below : j * U < v → (j * U + v) * D ≤ 2 * (n * 2 ^ 149)
    below = near.below (units binary32 s j 147) (j * U) (units_held binary32 s j 147 few fine) (units_val binary32 s j 147 fine)

    above : v < j * U → 2 * (n * 2 ^ 149) ≤ (j * U + v) * D
    above = near.above (units binary32 s j 147) (j * U) (units_held binary32 s j 147 few fine) (units_val binary32 s j 147 fine)

    no_higher : 4 * n ≤ j * D → v ≤ j * U
    no_higher h = le_of_suc-le-suc (lt_of_not-le (λ (g : j * U < v). go U v (below g) (mul-le-mul_right U h) (mul-lt-mul_of_pos_right g D-pos)))
      where
        go : (U v : ℕ) → (j * U + v) * D ≤ 2 * (n * (4 * U)) → 4 * n * U ≤ j * D * U → j * U * D < v * D → ⊥
        go U v a b c = omega arith

    no_lower : j * D ≤ 4 * n → j * U ≤ v
    no_lower h = le_of_suc-le-suc (lt_of_not-le (λ (g : v < j * U). go U v (above g) (mul-le-mul_right U h) (mul-lt-mul_of_pos_right g D-pos)))
      where
        go : (U v : ℕ) → 2 * (n * (4 * U)) ≤ (j * U + v) * D → j * D * U ≤ 4 * n * U → v * D < j * U * D → ⊥
        go U v a b c = omega arith

  -- off by at most half a quarter
  abbrev Off : Type 0
  Off = (2 * (v * D) ≤ 2 * (n * 2 ^ 149) + U * D) × (2 * (n * 2 ^ 149) ≤ 2 * (v * D) + U * D)

  -- between two quarters r is at the nearer, or between them too
  between : (j : ℕ) → suc j ≤ 2 ^ 24 → j * D ≤ 4 * n → 4 * n ≤ suc j * D → Off
  between j few lo hi = (
    over U v (mul-le-mul_right D (no_higher (suc j) few hi)) (mul-le-mul_right U lo) (ltb (j * U) v) (λ t. below j less (ltb→lt (j * U) v t)) (λ t. mul-le-mul_right D (nltb→le (j * U) v t)),
    under U v (mul-le-mul_right D (no_lower j less lo)) (mul-le-mul_right U hi) (ltb v (suc j * U)) (λ t. above (suc j) few (ltb→lt v (suc j * U) t)) (λ t. mul-le-mul_right D (nltb→le v (suc j * U) t)),
  )
    where
      less : j ≤ 2 ^ 24
      less = le_of_lt few

      over : (U v : ℕ) → v * D ≤ suc j * U * D → j * D * U ≤ 4 * n * U → (b : Bool) → (T b → (j * U + v) * D ≤ 2 * (n * (4 * U))) → (T (not b) → v * D ≤ j * U * D)
          → 2 * (v * D) ≤ 2 * (n * (4 * U)) + U * D
      over U v a l true f g = let h = f tt in omega arith
      over U v a l false f g = let h = g tt in omega arith

      under : (U v : ℕ) → j * U * D ≤ v * D → 4 * n * U ≤ suc j * D * U → (b : Bool) → (T b → 2 * (n * (4 * U)) ≤ (suc j * U + v) * D) → (T (not b) → suc j * U * D ≤ v * D)
          → 2 * (n * (4 * U)) ≤ 2 * (v * D) + U * D
      under U v a l true f g = let h = f tt in omega arith
      under U v a l false f g = let h = g tt in omega arith

  -- at 2 ^ 22 it is exact
  at_top : 2 ^ 24 * D ≤ 4 * n → Off
  at_top h =
      let hi : 4 * n ≤ 2 ^ 24 * D = omega arith in
      go U v (mul-le-mul_right D (no_higher (2 ^ 24) (lit≤ tt) hi)) (mul-le-mul_right D (no_lower (2 ^ 24) (lit≤ tt) h)) (mul-le-mul_right U hi) (mul-le-mul_right U h)
    where
      go : (U v : ℕ) → v * D ≤ 16777216 * U * D → 16777216 * U * D ≤ v * D → 4 * n * U ≤ 16777216 * D * U → 16777216 * D * U ≤ 4 * n * U
          → (2 * (v * D) ≤ 2 * (n * (4 * U)) + U * D) × (2 * (n * (4 * U)) ≤ 2 * (v * D) + U * D)
      go U v a b c d = (omega arith, omega arith)

  an_eighth : Off
  an_eighth =
      let lo : 4 * n / D * D ≤ 4 * n = div-mul-le_self (4 * n) D in
      elim (eq-or-lt_of_le (le_of_mul-le-mul_right (le_trans lo most) D-pos)) [
        | inl e ↦ at_top (subst (λ (j : ℕ). j * D ≤ 4 * n) e lo)
        | inr l ↦ between (4 * n / D) l lo (next (4 * n / D) (4 * n % D) (div-add-mod' (4 * n) D) (mod-lt (4 * n) D-pos))
      ]
    where
      most : 4 * n ≤ 16777216 * D
      most = omega arith

      next : (j r : ℕ) → j * D + r ≡ 4 * n → r < D → 4 * n ≤ suc j * D
      next j r e l = omega arith

-- ---- together

-- x is the f32 nearest to ±n / D, and R of it is ±h
pub record Settled (s : Bool) (n D : ℕ) (x : Float) : Type 0 where
  pub h : ℕ
  pub is : HasValue (round_of binary32 x) s h 1
  pub over : 8 * (h * D) ≤ 8 * n + 5 * D
  pub under : 8 * n ≤ 8 * (h * D) + 5 * D

pub settled : (s : Bool) (n D : ℕ) → 0 < D → n ≤ 2 ^ 22 * D → Settled s n D (round binary32 s n D)
settled s n D D-pos small =
    let r = round binary32 s n D in
    let near = round_nearest binary32 s n D D-pos (lt_of_le_of_lt small (mul-lt-mul_of_pos_right (lit< {m = 2 ^ 22} {n = too_large binary32} tt) D-pos)) in
    let w = whole_of r s near.size (2 ^ 149) near.held near.is in
    let o = an_eighth s n D D-pos small r near in
    record {
      h = w.h;
      is = w.is;
      over = le_of_mul-le-mul_right (over (2 ^ 147) near.size w.h (mul-le-mul_right D w.over) o.0) (pow_pos 149);
      under = le_of_mul-le-mul_right (under (2 ^ 147) near.size w.h (mul-le-mul_right D w.under) o.1) (pow_pos 149);
    }
  where
    over : (U v h : ℕ) → 2 * (h * (4 * U)) * D ≤ (2 * v + 4 * U) * D → 2 * (v * D) ≤ 2 * (n * (4 * U)) + U * D → 8 * (h * D) * (4 * U) ≤ (8 * n + 5 * D) * (4 * U)
    over U v h a b = omega arith

    under : (U v h : ℕ) → 2 * v * D ≤ (2 * (h * (4 * U)) + 4 * U) * D → 2 * (n * (4 * U)) ≤ 2 * (v * D) + U * D → 8 * n * (4 * U) ≤ (8 * (h * D) + 5 * D) * (4 * U)
    under U v h a b = omega arith

-- Assumes nothing.
