-- Which digits an f64 keeps as an f32: by its place, all that fit, those above the smallest value, none, or too many.
use mathlib.Core.Path.{◌≡◌, refl, sym, ap, ◌∙◌, subst}
use mathlib.Core.Bool.{true, false}
use Prim.Native.Nat.{ℕ, suc, ◌+◌, ◌-◌, ◌*◌, ◌/◌, ◌%◌, ◌^◌, ◌≤◌, ◌<◌, compare}
use native.Mathlib.Nat.{le_trans, le_of_eq, lt_of_lt_of_le, lt_of_le_of_lt, mul_assoc, mul-pos, mul-le-mul, mul-le-mul_right, le-div_iff_mul-le, div-lt_iff_lt-mul, div-eq_of_lt, mod-eq_of_lt}
use native.Mathlib.Omega.{arith}
use lib.Dec.{T, ltb, lit≤}
use lib.Arith.{le→nltb}
use lib.Pow.{pow-add, pow_pos, pow_mono, shl_lt, shr_lt}
use lib.Ieee.{Float, nan, inf, fin, binary32, binary64, up, down, size, units, round, of_bits}
use lib.Ieee.Digits.{size-le}
use lib.Ieee.Fits.{round_is, down_pos, nearest-le}
use lib.Ieee.Bits.{cond_no}
use lib.Ieee.Exact.{HasValue}
use lib.Ieee.Nearest.{closest, closest_same, nearest-ge}
use lib.Ieee.Scale.{round_same}
use lib.Ieee.Positive.{positive}
use Rattle.numbers.proofs.Near.{size_is}
use Rattle.numbers.proofs.Shift.{below_half}
use Rattle.to_f32.specs.Digits.{Split}
use Rattle.to_f32.specs.Narrow.{narrow}

narrow_at : (x : Float) (a c : ℕ) → T (positive x) → 0 < c → HasValue x false a c → narrow binary32 x ≡ round binary32 false a c
unfolding narrow
narrow_at nan a c p C v = absurd p
narrow_at (inf s) a c p C v = absurd p
narrow_at (fin true m e) a c p C v = absurd p
narrow_at (fin false m e) a c p C v = round_same binary32 false (m * up e) (down e) a c (down_pos e) C v.1

pub kept_le : (m k q : ℕ) → m < 9007199254740992 → 29 ≤ k → q ≡ closest m (2 ^ k) → q ≤ 2 ^ 24
kept_le m k q h K is =
    let kept = nearest-le (m / 2 ^ k) (compare (m % 2 ^ k * 2) (2 ^ k)) in
    subst (λ (z : ℕ). z ≤ 2 ^ 24) (sym is) (le_trans kept (shr_lt 24 k (lt_of_lt_of_le h (pow_mono (go k K)))))
  where
    go : (k : ℕ) → 29 ≤ k → 53 ≤ 24 + k
    go k h = omega arith

module _ (x : Float) (m e : ℕ) (S : Split binary64 x m e) (p : T (positive x)) where
  abbrev n : ℕ
  n = m * 2 ^ e * 2 ^ 149

  n_is : n ≡ m * 2 ^ (e + 149)
  n_is = mul_assoc m (2 ^ e) (2 ^ 149) ∙ ap (λ (z : ℕ). m * z) (sym (pow-add 2 e 149))

  start : narrow binary32 x ≡ units binary32 false (closest n (2 ^ 1074 * 2 ^ (size (n / 2 ^ 1074) - 24))) (size (n / 2 ^ 1074) - 24)
  start = narrow_at x (m * 2 ^ e) (2 ^ 1074) p (pow_pos 1074) S.value ∙ round_is binary32 false (m * 2 ^ e) (2 ^ 1074)

  -- the digits dropped from m, where k of m's are, and w of the units
  kept : (k w : ℕ) → e + 149 + k ≡ 1074 + w → closest n (2 ^ 1074 * 2 ^ w) ≡ closest m (2 ^ k)
  kept k w h = closest_same n (2 ^ 1074 * 2 ^ w) m (2 ^ k) (mul-pos (pow_pos 1074) (pow_pos w)) (pow_pos k)
      (ap (λ (z : ℕ). z * 2 ^ k) n_is ∙ mul_assoc m (2 ^ (e + 149)) (2 ^ k) ∙ ap (λ (z : ℕ). m * z) (sym (pow-add 2 (e + 149) k) ∙ ap (λ (z : ℕ). 2 ^ z) h ∙ pow-add 2 1074 w))

  finish : (k w : ℕ) → size (n / 2 ^ 1074) - 24 ≡ w → e + 149 + k ≡ 1074 + w → narrow binary32 x ≡ units binary32 false (closest m (2 ^ k)) w
  finish k w d h = start ∙ ap (λ (z : ℕ). units binary32 false (closest n (2 ^ 1074 * 2 ^ z)) z) d ∙ ap (λ (z : ℕ). units binary32 false z w) (kept k w h)

  -- ---- all its digits
  pub high : 896 ≤ e → narrow binary32 x ≡ units binary32 false (closest m (2 ^ 29)) (e - 896)
  high h = finish 29 (e - 896) (ap (λ (z : ℕ). z - 24) (size_is (n / 2 ^ 1074) (e - 873) lo hi) ∙ go e h) (go2 e h)
    where
      go : (e : ℕ) → 896 ≤ e → suc (e - 873) - 24 ≡ e - 896
      go e h = omega arith

      go2 : (e : ℕ) → 896 ≤ e → e + 149 + 29 ≡ 1074 + (e - 896)
      go2 e h = omega arith

      go3 : (e : ℕ) → 896 ≤ e → e - 873 + 1074 ≡ 52 + (e + 149)
      go3 e h = omega arith

      go4 : (e : ℕ) → 896 ≤ e → 53 + (e + 149) ≡ suc (e - 873) + 1074
      go4 e h = omega arith

      go5 : (e : ℕ) → 896 ≤ e → 0 < e
      go5 e h = omega arith

      lo : 2 ^ (e - 873) ≤ n / 2 ^ 1074
      lo = (le-div_iff_mul-le (pow_pos 1074)).1 (le_trans (le_of_eq (sym (pow-add 2 (e - 873) 1074) ∙ ap (λ (z : ℕ). 2 ^ z) (go3 e h) ∙ pow-add 2 52 (e + 149))) (le_trans (mul-le-mul_right (2 ^ (e + 149)) (S.full (go5 e h))) (le_of_eq (sym n_is))))

      hi : n / 2 ^ 1074 < 2 ^ suc (e - 873)
      hi = (div-lt_iff_lt-mul (pow_pos 1074)).1 (lt_of_le_of_lt (le_of_eq n_is) (lt_of_lt_of_le (shl_lt 53 (e + 149) S.small) (le_of_eq (ap (λ (z : ℕ). 2 ^ z) (go4 e h) ∙ pow-add 2 (suc (e - 873)) 1074))))

  -- ---- fewer: a multiple of the smallest value
  pub low : e < 896 → narrow binary32 x ≡ units binary32 false (closest m (2 ^ (925 - e))) 0
  low h = finish (925 - e) 0 (go (size (n / 2 ^ 1074)) (size-le (n / 2 ^ 1074) 24 small)) (go2 e h)
    where
      go : (z : ℕ) → z ≤ 24 → z - 24 ≡ 0
      go z h = omega arith

      go2 : (e : ℕ) → e < 896 → e + 149 + (925 - e) ≡ 1074 + 0
      go2 e h = omega arith

      go3 : (e : ℕ) → e < 896 → 53 + (e + 149) ≤ 24 + 1074
      go3 e h = omega arith

      small : n / 2 ^ 1074 < 2 ^ 24
      small = (div-lt_iff_lt-mul (pow_pos 1074)).1 (lt_of_le_of_lt (le_of_eq n_is) (lt_of_lt_of_le (shl_lt 53 (e + 149) S.small) (le_trans (pow_mono (go3 e h)) (le_of_eq (pow-add 2 24 1074)))))

  -- ---- none
  nil : units binary32 false 0 0 ≡ of_bits binary32 0
  unfolding units of_bits
  nil = refl

  pub none : e ≤ 861 → narrow binary32 x ≡ of_bits binary32 0
  none h = low (go1 e h) ∙ ap (λ (z : ℕ). units binary32 false z 0) (sym (below_half m (2 ^ (925 - e)) half) ∙ div-eq_of_lt less) ∙ nil
    where
      go1 : (e : ℕ) → e ≤ 861 → e < 896
      go1 e h = omega arith

      go2 : (e : ℕ) → e ≤ 861 → 54 ≤ 925 - e
      go2 e h = omega arith

      wide : 2 ^ 54 ≤ 2 ^ (925 - e)
      wide = pow_mono (go2 e h)

      go3 : (m d : ℕ) → m < 9007199254740992 → 18014398509481984 ≤ d → m < d
      go3 m d a b = omega arith

      less : m < 2 ^ (925 - e)
      less = go3 m (2 ^ (925 - e)) S.small wide

      go4 : (m d : ℕ) → m < 9007199254740992 → 18014398509481984 ≤ d → m < d - m
      go4 m d a b = omega arith

      half : m % 2 ^ (925 - e) < 2 ^ (925 - e) - m % 2 ^ (925 - e)
      half = subst (λ (z : ℕ). z < 2 ^ (925 - e) - z) (sym (mod-eq_of_lt less)) (go4 m (2 ^ (925 - e)) S.small wide)

  -- ---- too many
  past : (q w : ℕ) → 2 ^ 23 ≤ q → 254 ≤ w → units binary32 false q w ≡ inf false
  unfolding units
  past q w Q W = cond_no (ltb (q * 2 ^ w) (2 ^ 277)) _ (inf false) (le→nltb (q * 2 ^ w) (2 ^ 277) (le_trans (le_of_eq (pow-add 2 23 254)) (mul-le-mul Q (pow_mono W))))

  pub endless : 1150 ≤ e → narrow binary32 x ≡ inf false
  endless h = high (go1 e h) ∙ past (closest m (2 ^ 29)) (e - 896) (le_trans ((le-div_iff_mul-le (pow_pos 29)).1 (le_trans (lit≤ tt) (S.full (go2 e h)))) (nearest-ge (m / 2 ^ 29) (compare (m % 2 ^ 29 * 2) (2 ^ 29)))) (go3 e h)
    where
      go1 : (e : ℕ) → 1150 ≤ e → 896 ≤ e
      go1 e h = omega arith

      go2 : (e : ℕ) → 1150 ≤ e → 0 < e
      go2 e h = omega arith

      go3 : (e : ℕ) → 1150 ≤ e → 254 ≤ e - 896
      go3 e h = omega arith

-- Assumes nothing.
