-- The root of n * 4 ^ w units of the square of the smallest value, over the format, where n has 2 * (prec + k) digits or one less: the multiple of 2 ^ k nearest to n's root, in its place.
use mathlib.Core.Path.{◌≡◌, sym, ap, ◌∙◌, subst}
use mathlib.Core.Bool.{true, false}
use Prim.Native.Nat.{ℕ, zero, suc, ◌+◌, ◌-◌, ◌*◌, ◌/◌, ◌^◌, ◌≤◌, ◌<◌, compare, Ordering}
use native.Mathlib.Nat.{zero-add, add-zero, le_trans, le_of_eq, lt_irrefl, lt_of_lt_of_le, lt_of_le_of_lt, lt_of_not-le, not-le_of_lt, mul-one, mul_assoc, mul-le-mul, mul-le-mul_right, mul-div_cancel, le-div_iff_mul-le}
use native.Mathlib.Omega.{arith}
use lib.IntN.{ℤ, pos}
use lib.Dec.{T, ltb→lt}
use lib.Pow.{pow-add, pow_pos, shl_lt, shr_lt, shr-shr}
use lib.Ieee.{Float, nan, inf, fin, Format, prec, low, up, down, size, nearest, units, mul, of_int}
use lib.Ieee.Fits.{two, two-le_pos, nearest-le, down_pos}
use lib.Ieee.Nearest.{nearest-ge}
use lib.Ieee.Exact.{HasValue}
use lib.Ieee.Positive.{positive}
use Rattle.numbers.proofs.Units.{put}
use Rattle.numbers.proofs.Near.{size_is}
use Rattle.roots.specs.Root.{root, nearest_root, nearest_root_at, root_of, sqrt_of}
use Rattle.roots.proofs.Roots.{root_is, scaled_root, compare_scaled}

-- ---- squares of powers of two
double : (a : ℕ) → 2 * a ≡ a + a
double a = omega arith

twice : (a b : ℕ) → 2 * (a + b) ≡ 2 * a + 2 * b
twice a b = omega arith

pub square : (a : ℕ) → 2 ^ (2 * a) ≡ 2 ^ a * 2 ^ a
square a = ap (λ (z : ℕ). 2 ^ z) (double a) ∙ pow-add 2 a a

pub square_back : (a b : ℕ) → a * a < b * b → a < b
square_back a b h = lt_of_not-le (λ (g : b ≤ a). not-le_of_lt h (mul-le-mul g g))

-- n from 4 ^ a on, its root from 2 ^ a on
root_ge : (n a : ℕ) → 2 ^ (2 * a) ≤ n → 2 ^ a ≤ root n
root_ge n a lo = go (2 ^ a) (root n) (square_back (2 ^ a) (root n + 1) (lt_of_le_of_lt (le_trans (le_of_eq (sym (square a))) lo) (root_is n).high))
  where
    go : (p r : ℕ) → p < r + 1 → p ≤ r
    go p r h = omega arith

pub root_lt : (n a : ℕ) → n < 2 ^ (2 * a) → root n < 2 ^ a
root_lt n a hi = square_back (root n) (2 ^ a) (lt_of_le_of_lt (root_is n).low (lt_of_lt_of_le hi (le_of_eq (square a))))

-- ---- the same root, n in smaller units
module _ (n k w : ℕ) where
  quotient_is : n * 2 ^ (2 * w) / 2 ^ (2 * (k + w)) ≡ n / 2 ^ (2 * k)
  quotient_is =
      ap (λ (z : ℕ). n * 2 ^ (2 * w) / 2 ^ z) (go k w)
      ∙ sym (shr-shr (n * 2 ^ (2 * w)) (2 * w) (2 * k))
      ∙ ap (λ (z : ℕ). z / 2 ^ (2 * k)) (mul-div_cancel n (pow_pos (2 * w)))
    where
      go : (k w : ℕ) → 2 * (k + w) ≡ 2 * w + 2 * k
      go k w = omega arith

  middle_is : (m : ℕ) → m * 2 ^ (2 * (k + w)) ≡ m * 2 ^ (2 * k) * 2 ^ (2 * w)
  middle_is m = ap (λ (z : ℕ). m * 2 ^ z) (twice k w) ∙ ap (λ (z : ℕ). m * z) (pow-add 2 (2 * k) (2 * w)) ∙ sym (mul_assoc m (2 ^ (2 * k)) (2 ^ (2 * w)))

  pub scaled_at : nearest_root_at (k + w) (n * 2 ^ (2 * w)) ≡ nearest_root_at k n
  unfolding nearest_root_at
  scaled_at =
      let c = 2 ^ (2 * w) in
      let q = root (n / 2 ^ (2 * k)) in
      let m : ℕ = (2 * q + 1) * (2 * q + 1) in
      ap (λ (z : ℕ). nearest (root z) (compare (4 * (n * c)) ((2 * root z + 1) * (2 * root z + 1) * 2 ^ (2 * (k + w))))) quotient_is
      ∙ ap (λ (z : ℕ). nearest q (compare z (m * 2 ^ (2 * (k + w))))) (sym (mul_assoc 4 n c))
      ∙ ap (λ (z : ℕ). nearest q (compare (4 * n * c) z)) (middle_is m)
      ∙ ap (nearest q) (compare_scaled (4 * n) (m * 2 ^ (2 * k)) c (pow_pos (2 * w)))

pub nearest_at_zero : (n : ℕ) → nearest_root_at 0 n ≡ nearest_root n
nearest_at_zero n = ap (nearest_root_at 0) (sym (mul-one n)) ∙ scaled_root n 0

-- ---- n has 2 * k digits more than a root of the format can show
module _ (f : Format) (n k : ℕ) (lo : 2 ^ (2 * (prec f - 1 + k)) ≤ n) (hi : n < 2 ^ (2 * (prec f + k))) where
  some : 0 < prec f
  some = two-le_pos (prec f) (two f)

  quotient_lo : 2 ^ (2 * (prec f - 1)) ≤ n / 2 ^ (2 * k)
  quotient_lo = (le-div_iff_mul-le (pow_pos (2 * k))).1 (le_trans (le_of_eq (sym (pow-add 2 (2 * (prec f - 1)) (2 * k)) ∙ ap (λ (z : ℕ). 2 ^ z) (sym (twice (prec f - 1) k)))) lo)

  quotient_hi : n / 2 ^ (2 * k) < 2 ^ (2 * prec f)
  quotient_hi = shr_lt (2 * prec f) (2 * k) (subst (λ (z : ℕ). n < 2 ^ z) (twice (prec f) k) hi)

  abbrev q : ℕ
  q = root (n / 2 ^ (2 * k))

  abbrev against : Ordering
  against = compare (4 * n) ((2 * q + 1) * (2 * q + 1) * 2 ^ (2 * k))

  pub kept_lo : 2 ^ (prec f - 1) ≤ nearest_root_at k n
  unfolding nearest_root_at
  kept_lo = le_trans (root_ge (n / 2 ^ (2 * k)) (prec f - 1) quotient_lo) (nearest-ge q against)

  pub kept_hi : nearest_root_at k n ≤ 2 ^ prec f
  unfolding nearest_root_at
  kept_hi = le_trans (nearest-le q against) (root_lt (n / 2 ^ (2 * k)) (prec f) quotient_hi)

  module _ (w : ℕ) where
    abbrev whole : ℕ
    whole = n * 2 ^ (2 * w)

    whole_lo : 2 ^ (2 * (prec f - 1 + k + w)) ≤ whole
    whole_lo = le_trans (le_of_eq (ap (λ (z : ℕ). 2 ^ z) (twice (prec f - 1 + k) w) ∙ pow-add 2 (2 * (prec f - 1 + k)) (2 * w))) (mul-le-mul_right (2 ^ (2 * w)) lo)

    whole_hi : whole < 2 ^ (2 * suc (prec f - 1 + k + w))
    whole_hi = lt_of_lt_of_le (shl_lt (2 * (prec f + k)) (2 * w) hi) (le_of_eq (ap (λ (z : ℕ). 2 ^ z) (go (prec f) k w some)))
      where
        go : (p k w : ℕ) → 0 < p → 2 * (p + k) + 2 * w ≡ 2 * suc (p - 1 + k + w)
        go p k w h = omega arith

    dropped : size (root whole) - prec f ≡ k + w
    dropped =
        ap (λ (z : ℕ). z - prec f) (size_is (root whole) (prec f - 1 + k + w) (root_ge whole (prec f - 1 + k + w) whole_lo) (root_lt whole (suc (prec f - 1 + k + w)) whole_hi))
        ∙ go (prec f) k w some
      where
        go : (p k w : ℕ) → 0 < p → suc (p - 1 + k + w) - p ≡ k + w
        go p k w h = omega arith

    pub root_kept : root_of f (n * 2 ^ (2 * w)) ≡ units f false (nearest_root_at k n) (k + w)
    unfolding root_of
    root_kept =
        ap (λ (z : ℕ). units f false (nearest_root_at z whole) z) dropped
        ∙ ap (λ (z : ℕ). units f false z (k + w)) (scaled_at n k w)

-- ---- no digit is dropped: n has 2 * prec digits or one less
module _ (f : Format) (n : ℕ) (lo : 2 ^ (2 * (prec f - 1)) ≤ n) (hi : n < 2 ^ (2 * prec f)) where
  all_lo : 2 ^ (2 * (prec f - 1 + 0)) ≤ n
  all_lo = subst (λ (z : ℕ). 2 ^ (2 * z) ≤ n) (sym (add-zero (prec f - 1))) lo

  all_hi : n < 2 ^ (2 * (prec f + 0))
  all_hi = subst (λ (z : ℕ). n < 2 ^ (2 * z)) (sym (add-zero (prec f))) hi

  pub q_ge : 2 ^ (prec f - 1) ≤ nearest_root n
  q_ge = subst (λ (z : ℕ). 2 ^ (prec f - 1) ≤ z) (nearest_at_zero n) (kept_lo f n 0 all_lo all_hi)

  pub q_le : nearest_root n ≤ 2 ^ prec f
  q_le = subst (λ (z : ℕ). z ≤ 2 ^ prec f) (nearest_at_zero n) (kept_hi f n 0 all_lo all_hi)

  pub root_at : (w : ℕ) → root_of f (n * 2 ^ (2 * w)) ≡ units f false (nearest_root n) w
  root_at w =
      root_kept f n 0 all_lo all_hi w
      ∙ ap (λ (z : ℕ). units f false (nearest_root_at 0 n) z) (zero-add w)
      ∙ ap (λ (z : ℕ). units f false z w) (nearest_at_zero n)

  -- the product of the code
  pub made : (w : ℕ) (s : Float) → HasValue s false (2 ^ w) (2 ^ low f) → mul f (of_int f (pos (nearest_root n))) s ≡ root_of f (n * 2 ^ (2 * w))
  made w s power = put f (nearest_root n) w s q_le power ∙ sym (root_at w)

-- ---- the root of a float above zero
root_of_value : (f : Format) (m N : ℕ) (e : ℤ) → m * up e * 2 ^ (2 * low f) ≡ N * down e → m * up e * 2 ^ (2 * low f) / down e ≡ N
root_of_value f m N e h = ap (λ (z : ℕ). z / down e) h ∙ mul-div_cancel N (down_pos e)

pub sqrt_at : (f : Format) (x : Float) (N : ℕ) → T (positive x) → HasValue x false N (2 ^ (2 * low f)) → sqrt_of f x ≡ root_of f N
unfolding sqrt_of
sqrt_at f nan N p v = absurd p
sqrt_at f (inf s) N p v = absurd p
sqrt_at f (fin true m e) N p v = absurd p
sqrt_at f (fin false zero e) N p v = absurd (lt_irrefl 0 (ltb→lt 0 0 p))
sqrt_at f (fin false (suc m) e) N p v = ap (root_of f) (root_of_value f (suc m) N e v.1)

-- Assumes nothing.
