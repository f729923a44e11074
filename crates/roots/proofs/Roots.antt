-- The whole part of a root and the nearest whole number, by squares: one number q has q * q <= n < (q + 1) * (q + 1), and 4 * n against (2 * q + 1) squared decides.
use mathlib.Core.Path.{◌≡◌, refl, sym, ap, ◌∙◌, subst}
use mathlib.Core.Bool.{Bool, true, false, not, cond}
use Prim.Native.Nat.{ℕ, zero, suc, ◌+◌, ◌-◌, ◌*◌, ◌/◌, ◌^◌, ◌≤◌, ◌<◌, compare, Ordering}
use native.Mathlib.Nat.{le_trans, le_antisymm, lt_irrefl, lt_of_lt_of_le, lt_of_not-le, le_of_suc-le-suc, mul-le-mul, mul-add, add-mul, mul_assoc, mul_left_comm, two-pow-succ, mul-lt-mul_of_pos_right, le_of_lt, mul-div_cancel}
use native.Mathlib.Numerals.{add-one}
use native.Mathlib.Omega.{arith}
use lib.Dec.{T, leb, leb→le, nleb→lt}
use lib.Pow.{pow_pos}
use lib.Ieee.{size, nearest}
use lib.Ieee.Digits.{size-lt}
use Rattle.numbers.proofs.Order.{Cmp, cmp}
use Rattle.roots.specs.Root.{IsRoot, root_in, root, nearest_root, nearest_root_at}

-- ---- squares
pub next_square : (q : ℕ) → (q + 1) * (q + 1) ≡ q * q + 2 * q + 1
next_square q =
    let a : (q + 1) * (q + 1) ≡ q * (q + 1) + 1 * (q + 1) = add-mul q 1 (q + 1) in
    let b : q * (q + 1) ≡ q * q + q * 1 = mul-add q q 1 in
    omega arith

pub twice_square : (q : ℕ) → 2 * q * (2 * q) ≡ 4 * (q * q)
twice_square q =
    let a : 2 * q * (2 * q) ≡ 2 * (q * (2 * q)) = mul_assoc 2 q (2 * q) in
    let b : q * (2 * q) ≡ 2 * (q * q) = mul_left_comm q 2 q in
    omega arith

pub middle_square : (q : ℕ) → (2 * q + 1) * (2 * q + 1) ≡ 4 * (q * q) + 4 * q + 1
middle_square q =
    let a : (2 * q + 1) * (2 * q + 1) ≡ 2 * q * (2 * q) + 2 * (2 * q) + 1 = next_square (2 * q) in
    let b : 2 * q * (2 * q) ≡ 4 * (q * q) = twice_square q in
    omega arith

-- ---- there is one such number
not_more : (n a b : ℕ) → IsRoot n a → IsRoot n b → a ≤ b
not_more n a b p q = le_of_suc-le-suc (lt_of_not-le (λ (g : suc b ≤ a). lt_irrefl n (lt_of_lt_of_le q.high (le_trans (mul-le-mul (go b a g) (go b a g)) p.low))))
  where
    go : (b a : ℕ) → suc b ≤ a → b + 1 ≤ a
    go b a h = omega arith

pub root_unique : (n a b : ℕ) → IsRoot n a → IsRoot n b → a ≡ b
root_unique n a b p q = le_antisymm (not_more n a b p q) (not_more n b a q p)

-- ---- the definition gives it
step : (n r : ℕ) (t : Bool) → (T t → (2 * r + 1) * (2 * r + 1) ≤ n) → (T (not t) → n < (2 * r + 1) * (2 * r + 1)) → IsRoot (n / 4) r → IsRoot n (cond t (2 * r + 1) (2 * r))
step n r true y z p = record { low = y tt; high = go (r * r) ((r + 1) * (r + 1)) ((2 * r + 1 + 1) * (2 * r + 1 + 1)) p.high (next_square (2 * r + 1)) (middle_square r) (next_square r) }
  where
    go : (s u v : ℕ) → n / 4 < u → v ≡ (2 * r + 1) * (2 * r + 1) + 2 * (2 * r + 1) + 1 → (2 * r + 1) * (2 * r + 1) ≡ 4 * s + 4 * r + 1 → u ≡ s + 2 * r + 1 → n < v
    go s u v a b c d = omega arith
step n r false y z p = record { low = go (r * r) p.low (twice_square r); high = z tt }
  where
    go : (s : ℕ) → s ≤ n / 4 → 2 * r * (2 * r) ≡ 4 * s → 2 * r * (2 * r) ≤ n
    go s a b = omega arith

quarter : (n p : ℕ) → n < p + p → n / 4 < p
quarter n p h = omega arith

root_in_is : (d n : ℕ) → n < 2 ^ d → IsRoot n (root_in d n)
unfolding root_in
root_in_is zero n h = record { low = go n; high = go2 n h }
  where
    go : (n : ℕ) → 0 * 0 ≤ n
    go n = omega arith

    go2 : (n : ℕ) → n < 1 → n < (0 + 1) * (0 + 1)
    go2 n h = omega arith
root_in_is (suc d) n h =
    let r = root_in d (n / 4) in
    step n r (leb ((2 * r + 1) * (2 * r + 1)) n) (leb→le ((2 * r + 1) * (2 * r + 1)) n) (nleb→lt ((2 * r + 1) * (2 * r + 1)) n)
    (root_in_is d (n / 4) (quarter n (2 ^ d) (subst (λ (z : ℕ). n < z) (two-pow-succ d) h)))

pub root_is : (n : ℕ) → IsRoot n (root n)
unfolding root
root_is n = root_in_is (size n) n (size-lt n)

-- ---- to the nearest
module _ (n q s m : ℕ) (sq : s ≤ n) (ms : m ≡ 4 * s + 4 * q + 1) where
  keep : (o : Ordering) → Cmp o (4 * n) m → n - s ≤ q → q ≡ nearest q o
  keep Ordering.lt c h = refl
  keep Ordering.eq c h = absurd (go c h)
    where
      go : 4 * n ≡ m → n - s ≤ q → ⊥
      go a b = omega arith
  keep Ordering.gt c h = absurd (go c h)
    where
      go : m < 4 * n → n - s ≤ q → ⊥
      go a b = omega arith

  more : (o : Ordering) → Cmp o (4 * n) m → q < n - s → q + 1 ≡ nearest q o
  more Ordering.lt c h = absurd (go c h)
    where
      go : 4 * n < m → q < n - s → ⊥
      go a b = omega arith
  more Ordering.eq c h = absurd (go c h)
    where
      go : 4 * n ≡ m → q < n - s → ⊥
      go a b = omega arith
  more Ordering.gt c h = add-one q

module _ (n q : ℕ) (i : IsRoot n q) where
  nearest_at : nearest_root n ≡ nearest q (compare (4 * n) ((2 * q + 1) * (2 * q + 1)))
  unfolding nearest_root
  nearest_at = ap (λ (r : ℕ). nearest r (compare (4 * n) ((2 * r + 1) * (2 * r + 1)))) (root_unique n (root n) q (root_is n) i)

  pub kept : n - q * q ≤ q → q ≡ nearest_root n
  kept h = keep n q (q * q) ((2 * q + 1) * (2 * q + 1)) i.low (middle_square q) (compare (4 * n) ((2 * q + 1) * (2 * q + 1))) (cmp (4 * n) ((2 * q + 1) * (2 * q + 1))) h ∙ sym nearest_at

  pub raised : q < n - q * q → q + 1 ≡ nearest_root n
  raised h = more n q (q * q) ((2 * q + 1) * (2 * q + 1)) i.low (middle_square q) (compare (4 * n) ((2 * q + 1) * (2 * q + 1))) (cmp (4 * n) ((2 * q + 1) * (2 * q + 1))) h ∙ sym nearest_at

-- ---- both numbers times c
module _ (a b c : ℕ) (C : 0 < c) where
  up_lt : a < b → a * c < b * c
  up_lt h = mul-lt-mul_of_pos_right h C

  same_order : (o p : Ordering) → Cmp o a b → Cmp p (a * c) (b * c) → p ≡ o
  same_order Ordering.lt Ordering.lt h k = refl
  same_order Ordering.lt Ordering.eq h k = absurd (lt_irrefl (b * c) (subst (λ (z : ℕ). z < b * c) k (mul-lt-mul_of_pos_right h C)))
  same_order Ordering.lt Ordering.gt h k = absurd (lt_irrefl (a * c) (lt_of_lt_of_le (mul-lt-mul_of_pos_right h C) (le_of_lt k)))
  same_order Ordering.eq Ordering.lt h k = absurd (lt_irrefl (b * c) (subst (λ (z : ℕ). z * c < b * c) h k))
  same_order Ordering.eq Ordering.eq h k = refl
  same_order Ordering.eq Ordering.gt h k = absurd (lt_irrefl (b * c) (subst (λ (z : ℕ). b * c < z * c) h k))
  same_order Ordering.gt Ordering.lt h k = absurd (lt_irrefl (b * c) (lt_of_lt_of_le (mul-lt-mul_of_pos_right h C) (le_of_lt k)))
  same_order Ordering.gt Ordering.eq h k = absurd (lt_irrefl (a * c) (subst (λ (z : ℕ). z < a * c) (sym k) (mul-lt-mul_of_pos_right h C)))
  same_order Ordering.gt Ordering.gt h k = refl

  pub compare_scaled : compare (a * c) (b * c) ≡ compare a b
  compare_scaled = same_order (compare a b) (compare (a * c) (b * c)) (cmp a b) (cmp (a * c) (b * c))

pub scaled_root : (n w : ℕ) → nearest_root_at w (n * 2 ^ (2 * w)) ≡ nearest_root n
unfolding nearest_root_at nearest_root
scaled_root n w =
    let c = 2 ^ (2 * w) in
    let X : ℕ = (2 * root n + 1) * (2 * root n + 1) in
    ap (λ (q : ℕ). nearest (root q) (compare (4 * (n * c)) ((2 * root q + 1) * (2 * root q + 1) * c))) (mul-div_cancel n (pow_pos (2 * w)))
    ∙ ap (λ (z : ℕ). nearest (root n) (compare z (X * c))) (sym (mul_assoc 4 n c))
    ∙ ap (nearest (root n)) (compare_scaled (4 * n) X c (pow_pos (2 * w)))

-- ---- the halving
pub product_fits : (a : ℕ) → a ≤ 16777216 → a * a ≤ 281474976710656
product_fits a h = mul-le-mul h h

-- ---- by squares: the root of n lies from r less a half to r and a half
pub record Within (n r : ℕ) : Type 0 where
  pub under : (2 * r - 1) * (2 * r - 1) ≤ 4 * n
  pub over : 4 * n ≤ (2 * r + 1) * (2 * r + 1)

less_square : (q : ℕ) → (2 * q - 1) * (2 * q - 1) ≤ 2 * q * (2 * q)
less_square q = mul-le-mul (go q) (go q)
  where
    go : (q : ℕ) → 2 * q - 1 ≤ 2 * q
    go q = omega arith

module _ (n q : ℕ) (i : IsRoot n q) where
  place : (o : Ordering) → Cmp o (4 * n) ((2 * q + 1) * (2 * q + 1)) → Within n (nearest q o)
  place Ordering.lt c = record { under = le_trans (less_square q) (go (q * q) (2 * q * (2 * q)) (twice_square q) i.low); over = le_of_lt c }
    where
      go : (s d : ℕ) → d ≡ 4 * s → s ≤ n → d ≤ 4 * n
      go s d a b = omega arith
  place Ordering.eq c = absurd (go (q * q) ((2 * q + 1) * (2 * q + 1)) (middle_square q) c)
    where
      go : (s m : ℕ) → m ≡ 4 * s + 4 * q + 1 → 4 * n ≡ m → ⊥
      go s m a b = omega arith
  place Ordering.gt c = subst (λ (r : ℕ). Within n r) (add-one q) (record {
    under = subst (λ (z : ℕ). z * z ≤ 4 * n) (go q) (le_of_lt c);
    over = go2 (q * q) ((q + 1) * (q + 1)) ((2 * (q + 1) + 1) * (2 * (q + 1) + 1)) (next_square q) (middle_square (q + 1)) i.high;
  })
    where
      go : (q : ℕ) → 2 * q + 1 ≡ 2 * (q + 1) - 1
      go q = omega arith

      go2 : (s u v : ℕ) → u ≡ s + 2 * q + 1 → v ≡ 4 * u + 4 * (q + 1) + 1 → n < u → 4 * n ≤ v
      go2 s u v a b c = omega arith

pub nearest_within : (n : ℕ) → Within n (nearest_root n)
unfolding nearest_root
nearest_within n = place n (root n) (root_is n) (compare (4 * n) ((2 * root n + 1) * (2 * root n + 1))) (cmp (4 * n) ((2 * root n + 1) * (2 * root n + 1)))

-- Assumes nothing.
