-- Where a value lies beside zero, by the comparisons that code makes: each case of a float is settled by computing the comparison.
use mathlib.Core.Path.{◌≡◌, sym, subst}
use mathlib.Core.Bool.{Bool, true, false, not, ◌||◌, beq}
use Prim.Native.Nat.{ℕ, zero, suc, ◌+◌, ◌*◌, ◌<◌}
use native.Mathlib.Nat.{zero-lt-suc, mul-pos}
use native.Mathlib.Omega.{arith}
use lib.Dec.{T, eqb, ltb→lt, lt→ltb, eqb→eq}
use lib.IntN.{ℤ, pos}
use lib.Ieee.{Float, nan, inf, fin, up, down, neg, lt, eq, is_nan}
use lib.Ieee.Fits.{up_pos, and_l, and_i, eq→eqb}
use lib.Ieee.Positive.{positive}

pub yes : {b : Bool} → b ≡ true → T b
yes h = subst T (sym h) tt

pub no : {b : Bool} → b ≡ false → T (not b)
no h = subst (λ (a : Bool). T (not a)) (sym h) tt

-- 0, 2 ^ h and its negative
abbrev pub null : Float
null = fin false 0 (pos 0)

abbrev pub two_to : ℕ → Float
two_to h = fin false 1 (pos h)

abbrev pub minus_two_to : ℕ → Float
minus_two_to h = fin true 1 (pos h)

-- ---- one case each
pub over : (m : ℕ) (e : ℤ) → T (lt null (fin false (suc m) e))
unfolding lt
over m e = lt→ltb (0 * 1 * down e) (suc m * up e * 1) (go (suc m * up e) (down e) (mul-pos (zero-lt-suc m) (up_pos e)))
  where
    go : (n d : ℕ) → 0 < n → 0 * 1 * d < n * 1
    go n d h = omega arith

pub under : (m : ℕ) (e : ℤ) → T (lt (fin true (suc m) e) null)
unfolding lt
under m e = lt→ltb 0 (suc m * up e * 1 + 0 * 1 * down e) (go (suc m * up e) (down e) (mul-pos (zero-lt-suc m) (up_pos e)))
  where
    go : (n d : ℕ) → 0 < n → 0 < n * 1 + 0 * 1 * d
    go n d h = omega arith

pub not_under : (m : ℕ) (e : ℤ) → T (lt (fin false m e) null) → ⊥
unfolding lt
not_under m e a = go (m * up e) (down e) (ltb→lt (m * up e * 1) (0 * 1 * down e) a)
  where
    go : (n d : ℕ) → n * 1 < 0 * 1 * d → ⊥
    go n d h = omega arith

zero_not_over : (e : ℤ) → T (lt null (fin false 0 e)) → ⊥
unfolding lt
zero_not_over e a = go (up e) (down e) (ltb→lt (0 * 1 * down e) (0 * up e * 1) a)
  where
    go : (u d : ℕ) → 0 * 1 * d < 0 * u * 1 → ⊥
    go u d h = omega arith

pub zero_not_under : (s : Bool) (e : ℤ) → T (lt (fin s 0 e) null) → ⊥
unfolding lt
zero_not_under false e a = not_under 0 e a
zero_not_under true e a = go (up e) (down e) (ltb→lt 0 (0 * up e * 1 + 0 * 1 * down e) a)
  where
    go : (u d : ℕ) → 0 < 0 * u * 1 + 0 * 1 * d → ⊥
    go u d h = omega arith

nothing_past : (y : Float) → T (lt (inf false) y) → ⊥
unfolding lt
nothing_past nan a = a
nothing_past (inf t) a = a
nothing_past (fin t m e) a = a

-- ---- equal to zero
or_r : (a b : Bool) → T b → T (a || b)
or_r true b t = tt
or_r false b t = t

pub zero_is : (s : Bool) (e : ℤ) → T (eq (fin s 0 e) null)
unfolding eq
zero_is s e = and_i (eqb (0 * up e * 1) (0 * 1 * down e)) _ (eq→eqb (go (up e) (down e))) (or_r (beq s false) (eqb (0 * up e * 1) 0) (eq→eqb (go2 (up e))))
  where
    go : (u d : ℕ) → 0 * u * 1 ≡ 0 * 1 * d
    go u d = omega arith

    go2 : (u : ℕ) → 0 * u * 1 ≡ 0
    go2 u = omega arith

pub not_zero : (s : Bool) (m : ℕ) (e : ℤ) → T (eq (fin s (suc m) e) null) → ⊥
unfolding eq
not_zero s m e a = go (suc m * up e) (down e) (mul-pos (zero-lt-suc m) (up_pos e)) (eqb→eq (suc m * up e * 1) (0 * 1 * down e) (and_l (eqb (suc m * up e * 1) (0 * 1 * down e)) _ a))
  where
    go : (n d : ℕ) → 0 < n → n * 1 ≡ 0 * 1 * d → ⊥
    go n d h k = omega arith

-- ---- any value
pub above : (x y : Float) → T (lt null x) → T (lt x y) → T (positive x)
unfolding lt
above nan y a b = a
above (inf true) y a b = a
above (inf false) y a b = absurd (nothing_past y b)
above (fin true m e) y a b = a
above (fin false zero e) y a b = absurd (zero_not_over e a)
above (fin false (suc m) e) y a b = lt→ltb 0 (suc m) (zero-lt-suc m)

-- a value below zero, turned, is above it
pub flipped : (x : Float) → T (lt x null) → T (lt null (neg x))
unfolding lt neg
flipped nan a = a
flipped (inf true) a = a
flipped (inf false) a = a
flipped (fin false m e) a = absurd (not_under m e a)
flipped (fin true zero e) a = absurd (zero_not_under true e a)
flipped (fin true (suc m) e) a = over m e

pub positive_is : (x : Float) → T (positive x) → T (not (is_nan x))
unfolding is_nan
positive_is nan p = absurd p
positive_is (inf s) p = absurd p
positive_is (fin s m e) p = tt

-- Assumes nothing.
