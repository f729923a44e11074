-- Sums and differences of whole numbers that are exact in f32 are those of the whole numbers: a sum of values over a common denominator is a sum of the numerators over 1.
use mathlib.Core.Path.{◌≡◌, refl, sym, ap, ◌∙◌}
use mathlib.Core.Bool.{Bool, true, false, not, cond}
use Prim.Native.Nat.{ℕ, zero, suc, ◌+◌, ◌-◌, ◌*◌, ◌^◌, ◌≤◌, ◌<◌}
use native.Mathlib.Nat.{mul-one, mul-pos, mul_comm, mul_assoc, mul-lt-mul_of_pos_right, mul-le-mul_right, add-mul, mul-sub}
use native.Mathlib.Omega.{arith}
use lib.Dec.{ltb, lit<}
use lib.IntN.{ℤ, pos, negsuc, neg_ℤ, nat_abs, ◌+ℤ◌, ◌-ℤ◌, +ℤ_idr}
use lib.Ieee.{Float, nan, inf, fin, Format, prec, up, down, round, sum, add, sub, neg, of_int}
use lib.Ieee.Exact.{HasValue}
use lib.Ieee.Back.{round_whole}
use lib.Ieee.Scale.{round_same}
use lib.Ieee.Fits.{down_pos}
use borrow.Author.Tests.{lt-ltb, le-ltb, ltb-true, ltb-false}

-- ---- over 1

less_scaled : (m n c : ℕ) → 0 < c → ltb (m * c) (n * c) ≡ ltb m n
less_scaled m n c C = go (ltb m n) refl
  where
    go : (b : Bool) → ltb m n ≡ b → ltb (m * c) (n * c) ≡ ltb m n
    go true e = lt-ltb (m * c) (n * c) (mul-lt-mul_of_pos_right (ltb-true m n e) C) ∙ sym e
    go false e = le-ltb (m * c) (n * c) (mul-le-mul_right c (ltb-false m n e)) ∙ sym e

sub_scaled : (m n c : ℕ) → m * c - n * c ≡ (m - n) * c
sub_scaled m n c = rw (mul_comm m c, mul_comm n c, mul_comm (m - n) c) (sym (mul-sub c m n))

round_scaled : (f : Format) (s : Bool) (n c k : ℕ) → 0 < c → k ≡ n * c → round f s k c ≡ round f s n 1
round_scaled f s n c k C e = round_same f s k c n 1 C (lit< tt) (mul-one k ∙ e)

module _ (f : Format) (m n c : ℕ) (C : 0 < c) where
  -- the larger less the smaller, whichever that is
  way : (t : Bool) {a b u v : Bool} → a ≡ b → u ≡ v → cond a (round f t (n * c - m * c) c) (round f u (m * c - n * c) c) ≡ cond b (round f t (n - m) 1) (round f v (m - n) 1)
  way t {a} {b} {u} {v} e g =
      rw (e, g, round_scaled f t (n - m) c (n * c - m * c) C (sub_scaled n m c), round_scaled f v (m - n) c (m * c - n * c) C (sub_scaled m n c))

  sum_scaled : (s t : Bool) → sum f s (m * c) t (n * c) c ≡ sum f s m t n 1
  unfolding sum
  sum_scaled true true = round_scaled f true (m + n) c (m * c + n * c) C (sym (add-mul m n c))
  sum_scaled false false = round_scaled f false (m + n) c (m * c + n * c) C (sym (add-mul m n c))
  sum_scaled true false = way false (less_scaled m n c C) (less_scaled n m c C)
  sum_scaled false true = way true {u = false} {v = false} (less_scaled m n c C) refl

add_values : (f : Format) (x y : Float) (s t : Bool) (m n : ℕ) → HasValue x s m 1 → HasValue y t n 1 → add f x y ≡ sum f s m t n 1
unfolding add
add_values f nan y s t m n v w = absurd v
add_values f (inf a) y s t m n v w = absurd v
add_values f (fin a p e) nan s t m n v w = absurd w
add_values f (fin a p e) (inf b) s t m n v w = absurd w
add_values f (fin a p e) (fin b q d) s t m n v w =
    let g : p * up e ≡ m * down e = sym (mul-one (p * up e)) ∙ v.1 in
    let h : q * up d ≡ n * down d = sym (mul-one (q * up d)) ∙ w.1 in
    rw (v.0, w.0, g, h, mul_assoc m (down e) (down d), mul_assoc n (down d) (down e), mul_comm (down d) (down e))
    (sum_scaled f m n (down e * down d) (mul-pos (down_pos e) (down_pos d)) s t)

-- ---- of whole numbers

-- the number with a sign and a magnitude
abbrev signed : Bool → ℕ → ℤ
signed true n = neg_ℤ (pos n)
signed false n = pos n

-- a sum whose first part is not -0
sum_whole : (f : Format) (s t : Bool) (m n : ℕ) → (s ≡ true → 0 < m) → sum f s m t n 1 ≡ of_int f (signed s m +ℤ signed t n)
unfolding sum of_int
sum_whole f false false m n h = refl
sum_whole f false true m zero h =
    let e : m - 0 ≡ m + 0 = omega arith in
    rw (le-ltb m 0 (omega arith), e)
sum_whole f false true m (suc n) h = go (ltb m (suc n)) refl
  where
    go : (b : Bool) → ltb m (suc n) ≡ b → cond b (round f true (suc n - m) 1) (round f false (m - suc n) 1) ≡ of_int f (cond b (negsuc (suc n - suc m)) (pos (m - suc n)))
    go true e = let l : m < suc n = ltb-true m (suc n) e in ap (λ (k : ℕ). round f true k 1) (omega arith)
    go false e = refl
sum_whole f true t zero n h = absurd (omega (arith, h refl))
sum_whole f true false (suc m) n h = go (ltb n (suc m)) refl
  where
    even : (b : Bool) → ltb (suc m) n ≡ b → suc m ≤ n → cond b (round f false (n - suc m) 1) (round f false (suc m - n) 1) ≡ round f false (n - suc m) 1
    even true e l = refl
    even false e l = let k : n ≤ suc m = ltb-false (suc m) n e in ap (λ (i : ℕ). round f false i 1) (omega arith)

    go : (b : Bool) → ltb n (suc m) ≡ b
        → cond (ltb (suc m) n) (round f false (n - suc m) 1) (round f b (suc m - n) 1) ≡ of_int f (cond b (negsuc (suc m - suc n)) (pos (n - suc m)))
    go true e =
        let l : n < suc m = ltb-true n (suc m) e in
        rw (le-ltb (suc m) n (omega arith)) (ap (λ (k : ℕ). round f true k 1) (omega arith))
    go false e = even (ltb (suc m) n) refl (ltb-false n (suc m) e)
sum_whole f true true (suc m) zero h =
    let e : suc m + 0 ≡ suc m = omega arith in
    rw (+ℤ_idr (negsuc m), e)
sum_whole f true true (suc m) (suc n) h = ap (λ (k : ℕ). round f true k 1) (omega arith)

below_zero : ℤ → Bool
below_zero (pos n) = false
below_zero (negsuc n) = true

value : (f : Format) (z : ℤ) → nat_abs z ≤ 2 ^ prec f → HasValue (of_int f z) (below_zero z) (nat_abs z) 1
unfolding of_int below_zero
value f (pos n) h = round_whole f false n h
value f (negsuc n) h = round_whole f true (suc n) h

neg_value : (x : Float) (s : Bool) (n : ℕ) → HasValue x s n 1 → HasValue (neg x) (not s) n 1
unfolding neg
neg_value nan s n v = absurd v
neg_value (inf t) s n v = absurd v
neg_value (fin t m e) s n v = (ap not v.0, v.1)

module _ (f : Format) (a b : ℤ) (g : nat_abs a ≤ 2 ^ prec f) (h : nat_abs b ≤ 2 ^ prec f) where
  whole_is : (z : ℤ) → signed (below_zero z) (nat_abs z) ≡ z
  unfolding below_zero
  whole_is (pos n) = refl
  whole_is (negsuc n) = refl

  turned_is : (z : ℤ) → signed (not (below_zero z)) (nat_abs z) ≡ neg_ℤ z
  unfolding below_zero
  turned_is (pos n) = refl
  turned_is (negsuc n) = refl

  some : (z : ℤ) → below_zero z ≡ true → 0 < nat_abs z
  unfolding below_zero
  some (pos n) e = absurd (let z : ◌≡◌ {A = ℕ} 0 1 = cc in omega arith)
  some (negsuc n) e = omega arith

  pub add_wholes : add f (of_int f a) (of_int f b) ≡ of_int f (a +ℤ b)
  add_wholes =
      add_values f (of_int f a) (of_int f b) (below_zero a) (below_zero b) (nat_abs a) (nat_abs b) (value f a g) (value f b h)
      ∙ sum_whole f (below_zero a) (below_zero b) (nat_abs a) (nat_abs b) (some a)
      ∙ rw (whole_is a, whole_is b)

  pub sub_wholes : sub f (of_int f a) (of_int f b) ≡ of_int f (a -ℤ b)
  unfolding sub
  sub_wholes =
      add_values f (of_int f a) (neg (of_int f b)) (below_zero a) (not (below_zero b)) (nat_abs a) (nat_abs b) (value f a g) (neg_value (of_int f b) (below_zero b) (nat_abs b) (value f b h))
      ∙ sum_whole f (below_zero a) (not (below_zero b)) (nat_abs a) (nat_abs b) (some a)
      ∙ rw (whole_is a, turned_is b)

-- Assumes nothing.
