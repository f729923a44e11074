-- The root of a whole number of 64 bits, as an f32: the number is brought to 47 or 48 digits, by zeros put after it or by pairs of digits dropped, and then `root_kept` says what its root is.
use mathlib.Core.Path.{◌≡◌, refl, sym, ap, ◌∙◌, subst}
use mathlib.Core.Bool.{false}
use Prim.Native.Nat.{ℕ, suc, ◌+◌, ◌-◌, ◌*◌, ◌/◌, ◌%◌, ◌^◌, ◌≤◌, ◌<◌, compare, Ordering}
use native.Mathlib.Nat.{le_trans, le_of_eq, lt_of_lt_of_le, lt_of_le_of_lt, add_comm, mul_assoc, mul_comm, mul-mul-mul_comm, mul-le-mul_right}
use native.Mathlib.Numerals.{add-one}
use native.Mathlib.Omega.{arith}
use lib.Count.{count_leading_zeros, leading_top}
use lib.Pow.{pow-add, pow_mono, shl_lt, shr_lt, shl_exact}
use lib.Ieee.{binary32, nearest, units}
use Rattle.roots.specs.Root.{IsRoot, root, nearest_root, nearest_root_at, root_of, root_of_whole}
use Rattle.roots.proofs.Roots.{root_is, root_unique}
use Rattle.numbers.proofs.Order.{Cmp, cmp}
use Rattle.roots.proofs.RootOf.{square, square_back, root_kept, kept_lo, kept_hi, root_at, q_ge, q_le}
use Rattle.numbers.proofs.Powers.{pow_lt_back}

-- ---- n against the square of the middle between two multiples of 2 ^ k
module _ (n q s m : ℕ) (four : 4 * s ≡ m) where
  below : (o : Ordering) → Cmp o (4 * n) m → n < s → q ≡ nearest q o
  below Ordering.lt c h = refl
  below Ordering.eq c h = absurd (go c h)
    where
      go : 4 * n ≡ m → n < s → ⊥
      go a b = omega arith
  below Ordering.gt c h = absurd (go c h)
    where
      go : m < 4 * n → n < s → ⊥
      go a b = omega arith

  above : (o : Ordering) → Cmp o (4 * n) m → s < n → q + 1 ≡ nearest q o
  above Ordering.lt c h = absurd (go c h)
    where
      go : 4 * n < m → s < n → ⊥
      go a b = omega arith
  above Ordering.eq c h = absurd (go c h)
    where
      go : 4 * n ≡ m → s < n → ⊥
      go a b = omega arith
  above Ordering.gt c h = add-one q

  level : (o : Ordering) → Cmp o (4 * n) m → s ≤ n → n ≤ s → q + q % 2 ≡ nearest q o
  level Ordering.lt c g h = absurd (go c g)
    where
      go : 4 * n < m → s ≤ n → ⊥
      go a b = omega arith
  level Ordering.eq c g h = refl
  level Ordering.gt c g h = absurd (go c h)
    where
      go : m < 4 * n → n ≤ s → ⊥
      go a b = omega arith

-- what is left of n after k pairs of digits are dropped
pub cut_lt : (n k : ℕ) → n < 2 ^ (2 * (24 + k)) → n / 2 ^ (2 * k) < 2 ^ 48
cut_lt n k h = shr_lt 48 (2 * k) (subst (λ (z : ℕ). n < 2 ^ z) (go k) h)
  where
    go : (k : ℕ) → 2 * (24 + k) ≡ 48 + 2 * k
    go k = omega arith

module _ (n k q : ℕ) (i : IsRoot (n / 2 ^ (2 * k)) q) (some : 0 < k) (few : k ≤ 8) (hi : n < 2 ^ (2 * (24 + k))) where
  abbrev m : ℕ
  m = (2 * q + 1) * (2 * q + 1) * 2 ^ (2 * k)

  abbrev middle : ℕ
  middle = (2 * q + 1) * 2 ^ (k - 1)

  four : 4 * (middle * middle) ≡ m
  four =
      ap (λ (z : ℕ). 4 * z) (mul-mul-mul_comm (2 * q + 1) (2 ^ (k - 1)) (2 * q + 1) (2 ^ (k - 1)))
      ∙ mul_comm 4 ((2 * q + 1) * (2 * q + 1) * (2 ^ (k - 1) * 2 ^ (k - 1)))
      ∙ mul_assoc ((2 * q + 1) * (2 * q + 1)) (2 ^ (k - 1) * 2 ^ (k - 1)) 4
      ∙ ap (λ (z : ℕ). (2 * q + 1) * (2 * q + 1) * z) (ap (λ (z : ℕ). z * 2 ^ 2) (sym (square (k - 1))) ∙ sym (pow-add 2 (2 * (k - 1)) 2) ∙ ap (λ (z : ℕ). 2 ^ z) (go k some))
    where
      go : (k : ℕ) → 0 < k → 2 * (k - 1) + 2 ≡ 2 * k
      go k h = omega arith

  at : nearest_root_at k n ≡ nearest q (compare (4 * n) m)
  unfolding nearest_root_at
  at = ap (λ (r : ℕ). nearest r (compare (4 * n) ((2 * r + 1) * (2 * r + 1) * 2 ^ (2 * k)))) (root_unique (n / 2 ^ (2 * k)) (root (n / 2 ^ (2 * k))) q (root_is (n / 2 ^ (2 * k))) i)

  -- ---- the numbers fit
  pub q_lt : q < 2 ^ 24
  q_lt = square_back q (2 ^ 24) (lt_of_le_of_lt i.low (cut_lt n k hi))

  odd_lt : 2 * q + 1 < 2 ^ 25
  odd_lt = go q q_lt
    where
      go : (q : ℕ) → q < 16777216 → 2 * q + 1 < 33554432
      go q h = omega arith

  middle_is : (2 * q + 1) * 2 ^ (k - 1) % 2 ^ 64 ≡ middle
  middle_is = shl_exact 25 (k - 1) 64 odd_lt (go k few)
    where
      go : (k : ℕ) → k ≤ 8 → 25 + (k - 1) ≤ 64
      go k h = omega arith

  middle_lt : middle < 2 ^ 32
  middle_lt = lt_of_lt_of_le (shl_lt 25 (k - 1) odd_lt) (pow_mono (go k few))
    where
      go : (k : ℕ) → k ≤ 8 → 25 + (k - 1) ≤ 32
      go k h = omega arith

  -- ---- the code's middle r is what 64 bits keep of it, which is all
  module _ (r : ℕ) (is : r ≡ (2 * q + 1) * 2 ^ (k - 1) % 2 ^ 64) where
    r_is : r ≡ middle
    r_is = is ∙ middle_is

    pub made_lt : r < 2 ^ 32
    made_lt = subst (λ (z : ℕ). z < 2 ^ 32) (sym r_is) middle_lt

    pub stays : n < r * r → q ≡ nearest_root_at k n
    stays h = below n q (middle * middle) m four (compare (4 * n) m) (cmp (4 * n) m) (subst (λ (z : ℕ). n < z * z) r_is h) ∙ sym at

    pub goes_up : r * r < n → q + 1 ≡ nearest_root_at k n
    goes_up h = above n q (middle * middle) m four (compare (4 * n) m) (cmp (4 * n) m) (subst (λ (z : ℕ). z * z < n) r_is h) ∙ sym at

    to_even : r * r ≤ n → n ≤ r * r → q + q % 2 ≡ nearest_root_at k n
    to_even g h =
        level n q (middle * middle) m four (compare (4 * n) m) (cmp (4 * n) m)
        (subst (λ (z : ℕ). z * z ≤ n) r_is g) (subst (λ (z : ℕ). n ≤ z * z) r_is h)
        ∙ sym at

    pub stays_even : r * r ≤ n → n ≤ r * r → q % 2 ≡ 0 → q ≡ nearest_root_at k n
    stays_even g h e = go q e ∙ to_even g h
      where
        go : (q : ℕ) → q % 2 ≡ 0 → q ≡ q + q % 2
        go q h = omega arith

    pub from_odd : r * r ≤ n → n ≤ r * r → (q % 2 ≡ 0 → ⊥) → q + 1 ≡ nearest_root_at k n
    from_odd g h o = go q o ∙ to_even g h
      where
        go : (q : ℕ) → (q % 2 ≡ 0 → ⊥) → q + 1 ≡ q + q % 2
        go q h = omega arith

-- ---- the digits of n
module _ (n : ℕ) (some : n ≡ 0 → ⊥) (fits : n < 2 ^ 64) where
  abbrev z : ℕ
  z = count_leading_zeros 64 n

  top : (j : ℕ) × (count_leading_zeros 64 n + suc j ≡ 64) × (2 ^ j ≤ n) × (n < 2 ^ suc j)
  top = leading_top 64 n (go n some) fits
    where
      go : (n : ℕ) → (n ≡ 0 → ⊥) → 0 < n
      go n h = omega arith

  pub z_le : count_leading_zeros 64 n ≤ 63
  z_le = go z top.0 top.1
    where
      go : (z j : ℕ) → z + suc j ≡ 64 → z ≤ 63
      go z j e = omega arith

  -- ---- up to 48 digits: zeros are put after them
  module _ (short : n < 2 ^ 48) where
    pub z_ge : 16 ≤ count_leading_zeros 64 n
    z_ge = go z top.0 top.1 (pow_lt_back top.0 48 (lt_of_le_of_lt top.2 short))
      where
        go : (z j : ℕ) → z + suc j ≡ 64 → j < 48 → 16 ≤ z
        go z j e h = omega arith

    abbrev t : ℕ
    t = (count_leading_zeros 64 n - 16) / 2

    reach : 46 ≤ top.0 + 2 * t
    reach = go z top.0 top.1 z_ge
      where
        go : (z j : ℕ) → z + suc j ≡ 64 → 16 ≤ z → 46 ≤ j + 2 * ((z - 16) / 2)
        go z j e h = omega arith

    over : suc top.0 + 2 * t ≤ 48
    over = go z top.0 top.1 z_ge
      where
        go : (z j : ℕ) → z + suc j ≡ 64 → 16 ≤ z → suc j + 2 * ((z - 16) / 2) ≤ 48
        go z j e h = omega arith

    raised_is : n * 2 ^ (2 * t) % 2 ^ 64 ≡ n * 2 ^ (2 * t)
    raised_is = shl_exact (suc top.0) (2 * t) 64 top.3 (le_trans over (go))
      where
        go : 48 ≤ 64
        go = omega arith

    abbrev r : ℕ
    r = n * 2 ^ (2 * t)

    raised_lo : 2 ^ 46 ≤ r
    raised_lo = le_trans (pow_mono reach) (le_trans (le_of_eq (pow-add 2 top.0 (2 * t))) (mul-le-mul_right (2 ^ (2 * t)) top.2))

    raised_hi : r < 2 ^ 48
    raised_hi = lt_of_lt_of_le (shl_lt (suc top.0) (2 * t) top.3) (pow_mono over)

    -- the code's number is what 64 bits keep of r, which is all
    pub raised_lt : n * 2 ^ (2 * ((count_leading_zeros 64 n - 16) / 2)) % 2 ^ 64 < 2 ^ 48
    raised_lt = subst (λ (z : ℕ). z < 2 ^ 48) (sym raised_is) raised_hi

    units_are : n * 2 ^ 298 ≡ r * 2 ^ (2 * (149 - t))
    units_are = ap (λ (e : ℕ). n * e) (ap (λ (e : ℕ). 2 ^ e) (go z z_le) ∙ pow-add 2 (2 * t) (2 * (149 - t))) ∙ sym (mul_assoc n (2 ^ (2 * t)) (2 ^ (2 * (149 - t))))
      where
        go : (z : ℕ) → z ≤ 63 → 298 ≡ 2 * ((z - 16) / 2) + 2 * (149 - (z - 16) / 2)
        go z h = omega arith

    -- its root q
    module _ (q : ℕ) (is : q ≡ nearest_root (n * 2 ^ (2 * ((count_leading_zeros 64 n - 16) / 2)) % 2 ^ 64)) where
      nearest_is : q ≡ nearest_root r
      nearest_is = is ∙ ap nearest_root raised_is

      pub raised_root_lo : 2 ^ 23 ≤ q
      raised_root_lo = subst (λ (z : ℕ). 2 ^ 23 ≤ z) (sym nearest_is) (q_ge binary32 r raised_lo raised_hi)

      pub raised_root_hi : q ≤ 2 ^ 24
      raised_root_hi = subst (λ (z : ℕ). z ≤ 2 ^ 24) (sym nearest_is) (q_le binary32 r raised_lo raised_hi)

      pub short_root : units binary32 false q (149 - (count_leading_zeros 64 n - 16) / 2) ≡ root_of_whole binary32 n
      unfolding root_of_whole
      short_root =
          ap (λ (z : ℕ). units binary32 false z (149 - t)) nearest_is
          ∙ sym (root_at binary32 r raised_lo raised_hi (149 - t))
          ∙ ap (root_of binary32) (sym units_are)

  -- ---- from 49 digits on: pairs of digits are dropped
  module _ (long : 2 ^ 48 ≤ n) where
    pub z_lt : count_leading_zeros 64 n ≤ 15
    z_lt = go z top.0 top.1 (pow_lt_back 48 (suc top.0) (lt_of_le_of_lt long top.3))
      where
        go : (z j : ℕ) → z + suc j ≡ 64 → 48 < suc j → z ≤ 15
        go z j e h = omega arith

    abbrev k : ℕ
    k = (17 - count_leading_zeros 64 n) / 2

    long_lo : 2 ^ (2 * (23 + k)) ≤ n
    long_lo = le_trans (pow_mono (go z top.0 top.1 z_lt)) top.2
      where
        go : (z j : ℕ) → z + suc j ≡ 64 → z ≤ 15 → 2 * (23 + (17 - z) / 2) ≤ j
        go z j e h = omega arith

    pub long_hi : n < 2 ^ (2 * (24 + (17 - count_leading_zeros 64 n) / 2))
    long_hi = lt_of_lt_of_le top.3 (pow_mono (go z top.0 top.1 z_lt))
      where
        go : (z j : ℕ) → z + suc j ≡ 64 → z ≤ 15 → suc j ≤ 2 * (24 + (17 - z) / 2)
        go z j e h = omega arith

    -- the root q of what is kept
    module _ (q : ℕ) (is : q ≡ nearest_root_at ((17 - count_leading_zeros 64 n) / 2) n) where
      pub long_root_lo : 2 ^ 23 ≤ q
      long_root_lo = subst (λ (z : ℕ). 2 ^ 23 ≤ z) (sym is) (kept_lo binary32 n k long_lo long_hi)

      pub long_root_hi : q ≤ 2 ^ 24
      long_root_hi = subst (λ (z : ℕ). z ≤ 2 ^ 24) (sym is) (kept_hi binary32 n k long_lo long_hi)

      pub long_root : units binary32 false q (149 + (17 - count_leading_zeros 64 n) / 2) ≡ root_of_whole binary32 n
      unfolding root_of_whole
      long_root =
          ap (λ (z : ℕ). units binary32 false z (149 + k)) is
          ∙ ap (units binary32 false (nearest_root_at k n)) (add_comm 149 k)
          ∙ sym (root_kept binary32 n k long_lo long_hi 149)

-- Assumes nothing.
