-- A whole number as a float: its leading digits, rounded, at their place, over the format. Both sides are the same number of units.
use mathlib.Core.Path.{◌≡◌, sym, ap, ◌∙◌, subst}
use mathlib.Core.Bool.{false}
use Prim.Native.Nat.{ℕ, suc, ◌+◌, ◌-◌, ◌*◌, ◌/◌, ◌%◌, ◌^◌, ◌≤◌, ◌<◌, compare, zero-le}
use native.Mathlib.Nat.{le_trans, le_of_eq, le_of_lt, le_antisymm, lt_of_lt_of_le, lt_of_le_of_lt, lt_of_not-le, not-le_of_lt, zero-lt-suc, one-mul, mul_comm, mul_assoc, mul-pos, mul-le-mul_right, div-one, suc-add}
use native.Mathlib.Omega.{arith}
use lib.IntN.{pos}
use lib.Pow.{pow-add, pow_pos, pow_mono, shl_lt, shr_lt}
use lib.Count.{count_leading_zeros, leading_top}
use lib.Ieee.{Float, Format, binary32, prec, low, size, units, mul, of_int}
use lib.Ieee.Digits.{size-lt, size-le}
use lib.Ieee.Fits.{nearest-le, round_is}
use lib.Ieee.Exact.{HasValue}
use lib.Ieee.Nearest.{closest, closest_same}
use Rattle.numbers.proofs.Units.{of_int_is, put}
use Rattle.numbers.proofs.Powers.{pow_lt_back}

size_gt : (n j : ℕ) → 2 ^ j ≤ n → j < size n
size_gt n j h = lt_of_not-le (λ (g : size n ≤ j). not-le_of_lt (lt_of_lt_of_le (size-lt n) (pow_mono g)) h)

pub size_is : (n j : ℕ) → 2 ^ j ≤ n → n < 2 ^ suc j → size n ≡ suc j
size_is n j lo hi = le_antisymm (size-le n (suc j) hi) (size_gt n j lo)

module _ (f : Format) (n j k : ℕ) (lo : 2 ^ j ≤ n) (hi : n < 2 ^ suc j) (at : suc j ≡ prec f + k) where
  abbrev q : ℕ
  q = closest n (2 ^ k)

  pub q_le : closest n (2 ^ k) ≤ 2 ^ prec f
  q_le = le_trans (nearest-le (n / 2 ^ k) (compare (n % 2 ^ k * 2) (2 ^ k))) (shr_lt (prec f) k (subst (λ (z : ℕ). n < 2 ^ z) at hi))

  scaled_lo : 2 ^ (j + low f) ≤ n * 2 ^ low f / 1
  scaled_lo = le_trans (le_of_eq (pow-add 2 j (low f))) (le_trans (mul-le-mul_right (2 ^ low f) lo) (le_of_eq (sym (div-one (n * 2 ^ low f)))))

  scaled_hi : n * 2 ^ low f / 1 < 2 ^ suc (j + low f)
  scaled_hi = lt_of_le_of_lt (le_of_eq (div-one (n * 2 ^ low f))) (subst (λ (z : ℕ). n * 2 ^ low f < 2 ^ z) (suc-add j (low f)) (shl_lt (suc j) (low f) hi))

  dropped : size (n * 2 ^ low f / 1) - prec f ≡ k + low f
  dropped = ap (λ (z : ℕ). z - prec f) (size_is (n * 2 ^ low f / 1) (j + low f) scaled_lo scaled_hi) ∙ go j k (prec f) (low f) at
    where
      go : (j k p l : ℕ) → suc j ≡ p + k → suc (j + l) - p ≡ k + l
      go j k p l e = omega arith

  kept_is : closest (n * 2 ^ low f) (1 * 2 ^ (k + low f)) ≡ q
  kept_is = closest_same (n * 2 ^ low f) (1 * 2 ^ (k + low f)) n (2 ^ k) (mul-pos (zero-lt-suc 0) (pow_pos (k + low f))) (pow_pos k)
      (mul_assoc n (2 ^ low f) (2 ^ k) ∙ ap (λ (z : ℕ). n * z) (mul_comm (2 ^ low f) (2 ^ k) ∙ sym (pow-add 2 k (low f)) ∙ sym (one-mul (2 ^ (k + low f)))))

  -- n is its leading digits, at the place of the last of them
  pub leading : units f false (closest n (2 ^ k)) (k + low f) ≡ of_int f (pos n)
  leading =
      sym (ap (λ (z : ℕ). units f false z (k + low f)) kept_is)
      ∙ sym (ap (λ (z : ℕ). units f false (closest (n * 2 ^ low f) (1 * 2 ^ z)) z) dropped)
      ∙ sym (round_is f false n 1)
      ∙ sym (of_int_is f n)

-- ---- the digits of a 64-bit number past 2 ^ 24, from its leading zeros
pub record Sized (n z : ℕ) : Type 0 where
  pub some : z ≤ 39
  pub top : 2 ^ (23 + (40 - z)) ≤ n
  pub over : n < 2 ^ suc (23 + (40 - z))

pub sized : (n : ℕ) → 16777216 < n → n < 2 ^ 64 → Sized n (count_leading_zeros 64 n)
sized n g h =
    let z = count_leading_zeros 64 n in
    let t = leading_top 64 n (lt_of_le_of_lt zero-le g) h in
    let j = t.0 in
    let deep : 24 < suc j = pow_lt_back 24 (suc j) (lt_of_le_of_lt (le_of_lt g) t.3) in
    let e : 23 + (40 - z) ≡ j = go z j deep t.1 in
    record { some = go2 z j deep t.1; top = subst (λ (k : ℕ). 2 ^ k ≤ n) (sym e) t.2; over = subst (λ (k : ℕ). n < 2 ^ suc k) (sym e) t.3 }
  where
    go : (z j : ℕ) → 24 < suc j → z + suc j ≡ 64 → 23 + (40 - z) ≡ j
    go z j a b = omega arith

    go2 : (z j : ℕ) → 24 < suc j → z + suc j ≡ 64 → z ≤ 39
    go2 z j a b = omega arith

-- the product of the code, with the float s that is 2 ^ (40 - z)
module _ (n z : ℕ) (d : Sized n z) where
  at : suc (23 + (40 - z)) ≡ 24 + (40 - z)
  at = go (40 - z)
    where
      go : (k : ℕ) → suc (23 + k) ≡ 24 + k
      go k = omega arith

  pub few : closest n (2 ^ (40 - z)) ≤ 2 ^ 24
  few = q_le binary32 n (23 + (40 - z)) (40 - z) d.top d.over at

  pub whole_64 : (s : Float) → HasValue s false (2 ^ (40 - z + 149)) (2 ^ 149) → mul binary32 (of_int binary32 (pos (closest n (2 ^ (40 - z))))) s ≡ of_int binary32 (pos n)
  whole_64 s v = put binary32 (closest n (2 ^ (40 - z))) (40 - z + 149) s few v ∙ leading binary32 n (23 + (40 - z)) (40 - z) d.top d.over at

-- Assumes nothing.
