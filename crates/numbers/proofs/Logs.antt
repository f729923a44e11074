-- `ceil_log2` is the least k with n at most 2 ^ k: n lies from 2 ^ j up to 2 ^ (j + 1), and n and n - 1 share the bit j exactly where n is not 2 ^ j.
use mathlib.Core.Path.{◌≡◌, sym, ap, ◌∙◌, subst}
use mathlib.Core.Bool.{Bool, true, false, cond}
use Prim.Native.Nat.{ℕ, zero, suc, ◌+◌, ◌-◌, ◌*◌, ◌/◌, ◌^◌, ◌≤◌, ◌<◌, zero-le}
use native.Mathlib.Nat.{le_trans, le_of_lt, le_of_eq, lt_of_not-le, le_of_suc-le-suc, le_antisymm, one-mul, div-eq_of_lt, div-eq_of_lt-le, zero-lt-suc, mod_self, pow-suc}
use native.Mathlib.Omega.{arith}
use lib.Bits.{bit_and, and_shr, and_mask}
use lib.Count.{count_leading_zeros, leading_top, leading_of_zero}
use lib.Dec.{T, eqb, eqb→eq}
use lib.Ieee.Fits.{eq→eqb}
use lib.Pow.{pow_pos, pow_mono}
use Rattle.numbers.specs.Saturating.{IsLog, floor_log2, ceil_log2}
use Rattle.numbers.proofs.Powers.{pow_back}

module _ (n j : ℕ) (lo : 2 ^ j ≤ n) (hi : n < 2 ^ suc j) where
  one : (m : ℕ) → 2 ^ j ≤ m → m < 2 ^ suc j → m / 2 ^ j ≡ 1
  one m a b = div-eq_of_lt-le (2 ^ j) (subst (λ (z : ℕ). z ≤ m) (sym (one-mul (2 ^ j))) a) (subst (λ (z : ℕ). m < z) (pow-suc 2 j ∙ go (2 ^ j)) b)
    where
      go : (p : ℕ) → p * 2 ≡ (1 + 1) * p
      go p = omega arith

  -- no bit in common: a power of two
  single : bit_and n (n - 1) ≡ 0 → n ≡ 2 ^ j
  single e = le_antisymm (le_of_suc-le-suc (lt_of_not-le (λ (g : suc (2 ^ j) ≤ n). go (sym (ap (λ (z : ℕ). z / 2 ^ j) e) ∙ and_shr n (n - 1) j ∙ ap (λ (z : ℕ). bit_and z ((n - 1) / 2 ^ j)) (one n lo hi) ∙ ap (bit_and 1) (one (n - 1) (less g) (under hi)))))) lo
    where
      less : suc (2 ^ j) ≤ n → 2 ^ j ≤ n - 1
      less g = omega arith

      under : n < 2 ^ suc j → n - 1 < 2 ^ suc j
      under h = omega arith

      go : 0 / 2 ^ j ≡ 1 → ⊥
      go h = let z : 0 / 2 ^ j ≡ 0 = div-eq_of_lt (pow_pos j) in omega arith

  -- a power of two: no bit in common
  alone : n ≡ 2 ^ j → bit_and n (n - 1) ≡ 0
  alone e = ap (λ (z : ℕ). bit_and z (z - 1)) e ∙ and_mask (2 ^ j) j ∙ mod_self (2 ^ j)

  log_is : (t : Bool) → (T t → bit_and n (n - 1) ≡ 0) → (bit_and n (n - 1) ≡ 0 → T t) → IsLog n (cond t j (j + 1))
  log_is true a b = record { reaches = le_of_eq (single (a tt)); least = λ k h. pow_back j k (le_trans lo h) }
  log_is false a b = record { reaches = subst (λ (z : ℕ). n ≤ 2 ^ z) (go j) (le_of_lt hi); least = λ k h. more k h }
    where
      go : (j : ℕ) → suc j ≡ j + 1
      go j = omega arith

      up : (j k : ℕ) → j < k → j + 1 ≤ k
      up j k h = omega arith

      more : (k : ℕ) → n ≤ 2 ^ k → j + 1 ≤ k
      more k h = up j k (lt_of_not-le (λ (g : k ≤ j). b (alone (le_antisymm (le_trans h (pow_mono g)) lo))))

pub ceil_log2_is : (n : ℕ) → n < 2 ^ 64 → IsLog n (ceil_log2 n)
unfolding ceil_log2 floor_log2
ceil_log2_is zero h = rw leading_of_zero (record { reaches = zero-le; least = λ k g. zero-le })
ceil_log2_is (suc n) h =
    let t = leading_top 64 (suc n) (zero-lt-suc n) h in
    let e : 64 - count_leading_zeros 64 (suc n) - 1 ≡ t.0 = omega (arith, t.1) in
    rw e (log_is (suc n) t.0 t.2 t.3 (eqb (bit_and (suc n) (suc n - 1)) 0) (eqb→eq (bit_and (suc n) (suc n - 1)) 0) (λ q. eq→eqb q))

-- Assumes nothing.
