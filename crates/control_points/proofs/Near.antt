-- The f32 test of COINCIDE on whole numbers is their equality: within the range every whole number and every difference of two is exact in f32, and 1 is above 1e-3.
use mathlib.Core.Path.{◌≡◌, refl, sym, ◌∙◌}
use mathlib.Core.Bool.{Bool, true, false, not, cond, ◌&&◌}
use Prim.Native.Nat.{ℕ, zero, suc, ◌+◌, ◌-◌, ◌*◌, ◌≤◌, ◌<◌}
use native.Mathlib.Nat.{mul-one, mul-pos, mul_comm, mul_assoc, lt_of_mul-lt-mul_right, le_of_mul-le-mul_right, add-mul, mul-sub}
use native.Mathlib.Omega.{arith}
use lib.Dec.{ltb, eqb, lit<}
use lib.IntN.{ℤ, pos, negsuc}
use lib.Ieee.{Float, nan, inf, fin, binary32, up, down, round, sum, add, sub, neg, lt, of_int, of_bits}
use lib.Ieee.Exact.{HasValue}
use lib.Ieee.Back.{round_whole}
use lib.Ieee.Scale.{round_same}
use lib.Ieee.Fits.{down_pos}
use borrow.Author.Tests.{eqb-true, eqb-false, eq-eqb, ne_eqb, lt-ltb, le-ltb, ltb-true, ltb-false}
use Rattle.numbers.specs.Arith.{f}
use Rattle.numbers.specs.Magnitude.{abs_of}
use Rattle.control_points.specs.ControlPoints.{in_range, near}
use Rattle.control_points.proofs.Pairs.{in_range_mag}

pub eqb_same : (a b c d : ℕ) → (a ≡ b → c ≡ d) → (c ≡ d → a ≡ b) → eqb a b ≡ eqb c d
eqb_same a b c d g h = go (eqb c d) refl
  where
    go : (t : Bool) → eqb c d ≡ t → eqb a b ≡ eqb c d
    go true e = eq-eqb a b (h (eqb-true c d e)) ∙ sym e
    go false e = ne_eqb a b (λ k. eqb-false c d e (g k)) ∙ sym e

-- whether two whole numbers are equal
abbrev pub eq_z : ℤ → ℤ → Bool
eq_z (pos a) (pos b) = eqb a b
eq_z (pos a) (negsuc b) = false
eq_z (negsuc a) (pos b) = false
eq_z (negsuc a) (negsuc b) = eqb a b

-- ---- a whole number is below 1e-3 exactly where it is 0

below_one : (p u d n : ℕ) → 0 < d → p * u * 1 ≡ n * d → ltb (p * u * 8589934592) (8589935 * 1 * d) ≡ eqb n 0
below_one p u d zero D e = lt-ltb (p * u * 8589934592) (8589935 * 1 * d) (omega arith) ∙ sym (eq-eqb 0 0 refl)
below_one p u d (suc n) D e =
    let g : n * d + d ≡ suc n * d = omega arith in
    le-ltb (p * u * 8589934592) (8589935 * 1 * d) (omega arith) ∙ sym (ne_eqb (suc n) 0 (λ h. omega arith))

tiny_value : (x : Float) (s : Bool) (n : ℕ) → HasValue x s n 1 → lt (abs_of x) (f 0x3a83126f) ≡ eqb n 0
unfolding lt abs_of of_bits
tiny_value nan s n v = absurd v
tiny_value (inf t) s n v = absurd v
tiny_value (fin t m e) s n v = below_one m (up e) (down e) n (down_pos e) v.1

tiny : (s : Bool) (n c k : ℕ) → 0 < c → k ≡ n * c → n ≤ 16777216 → lt (abs_of (round binary32 s k c)) (f 0x3a83126f) ≡ eqb n 0
tiny s n c k C e h =
    rw (round_same binary32 s k c n 1 C (lit< tt) (mul-one k ∙ e)) (tiny_value (round binary32 s n 1) s n (round_whole binary32 s n h))

-- ---- sums and differences over a common denominator

sub_mul : (m n c : ℕ) → m * c - n * c ≡ (m - n) * c
sub_mul m n c = rw (mul_comm m c, mul_comm n c, mul_comm (m - n) c) (sym (mul-sub c m n))

module _ (m n c : ℕ) (C : 0 < c) where
  together : (s : Bool) → m + n ≤ 16777216 → lt (abs_of (sum binary32 s (m * c) s (n * c) c)) (f 0x3a83126f) ≡ eqb (m + n) 0
  unfolding sum
  together true h = tiny true (m + n) c (m * c + n * c) C (sym (add-mul m n c)) h
  together false h = tiny false (m + n) c (m * c + n * c) C (sym (add-mul m n c)) h

  -- which way the difference goes does not matter
  way : (s t : Bool) → m ≤ 16777216 → n ≤ 16777216 → (b : Bool) → ltb (m * c) (n * c) ≡ b
      → lt (abs_of (cond b (round binary32 t (n * c - m * c) c) (round binary32 s (m * c - n * c) c))) (f 0x3a83126f) ≡ eqb m n
  way s t g h true e =
      let l : m < n = lt_of_mul-lt-mul_right c (ltb-true (m * c) (n * c) e) in
      let k : n * c - m * c ≡ (n - m) * c = sub_mul n m c in
      tiny t (n - m) c (n * c - m * c) C k (omega arith) ∙ eqb_same (n - m) 0 m n (λ z. omega arith) (λ z. omega arith)
  way s t g h false e =
      let l : n ≤ m = le_of_mul-le-mul_right (ltb-false (m * c) (n * c) e) C in
      let k : m * c - n * c ≡ (m - n) * c = sub_mul m n c in
      tiny s (m - n) c (m * c - n * c) C k (omega arith) ∙ eqb_same (m - n) 0 m n (λ z. omega arith) (λ z. omega arith)

  apart : (s : Bool) → m ≤ 16777216 → n ≤ 16777216 → lt (abs_of (sum binary32 s (m * c) (not s) (n * c) c)) (f 0x3a83126f) ≡ eqb m n
  unfolding sum
  apart true g h = way (true && ltb (n * c) (m * c)) false g h (ltb (m * c) (n * c)) refl
  apart false g h = way (false && ltb (n * c) (m * c)) true g h (ltb (m * c) (n * c)) refl

-- what a difference of two values is over their common denominator
pub record Over (x y : Float) (s t : Bool) (m n : ℕ) : Type 0 where
  pub c : ℕ
  pub some : 0 < c
  pub is : sub binary32 x y ≡ sum binary32 s (m * c) (not t) (n * c) c

over : (x y : Float) (s t : Bool) (m n : ℕ) → HasValue x s m 1 → HasValue y t n 1 → Over x y s t m n
unfolding sub add neg
over nan y s t m n v w = absurd v
over (inf a) y s t m n v w = absurd v
over (fin a p e) nan s t m n v w = absurd w
over (fin a p e) (inf b) s t m n v w = absurd w
over (fin a p e) (fin b q d) s t m n v w =
    let g : p * up e ≡ m * down e = sym (mul-one (p * up e)) ∙ v.1 in
    let h : q * up d ≡ n * down d = sym (mul-one (q * up d)) ∙ w.1 in
    record {
      c = down e * down d;
      some = mul-pos (down_pos e) (down_pos d);
      is = rw (v.0, w.0, g, h, mul_assoc m (down e) (down d), mul_assoc n (down d) (down e), mul_comm (down d) (down e));
    }

module _ (m n : ℕ) (g : m ≤ 8388608) (h : n ≤ 8388608) where
  level : (s : Bool) → lt (abs_of (sub binary32 (round binary32 s m 1) (round binary32 s n 1))) (f 0x3a83126f) ≡ eqb m n
  level s =
      let o = over (round binary32 s m 1) (round binary32 s n 1) s s m n (round_whole binary32 s m (omega arith)) (round_whole binary32 s n (omega arith)) in
      rw o.is (apart m n o.c o.some s (omega arith) (omega arith))

  across : (s : Bool) → lt (abs_of (sub binary32 (round binary32 s m 1) (round binary32 (not s) n 1))) (f 0x3a83126f) ≡ eqb (m + n) 0
  across s =
      let o = over (round binary32 s m 1) (round binary32 (not s) n 1) s (not s) m n (round_whole binary32 s m (omega arith)) (round_whole binary32 (not s) n (omega arith)) in
      rw (o.is, twice s) (together m n o.c o.some s (omega arith))
    where
      twice : (t : Bool) → not (not t) ≡ t
      twice true = refl
      twice false = refl

-- the f32 test is equality
pub near_is : (a b : ℤ) → in_range a ≡ true → in_range b ≡ true → near a b ≡ eq_z a b
unfolding near of_int
near_is (pos m) (pos n) g h = level m n (omega (arith, in_range_mag (pos m) g)) (omega (arith, in_range_mag (pos n) h)) false
near_is (pos m) (negsuc n) g h = across m (suc n) (omega (arith, in_range_mag (pos m) g)) (omega (arith, in_range_mag (negsuc n) h)) false ∙ ne_eqb (m + suc n) 0 (λ e. omega arith)
near_is (negsuc m) (pos n) g h = across (suc m) n (omega (arith, in_range_mag (negsuc m) g)) (omega (arith, in_range_mag (pos n) h)) true ∙ ne_eqb (suc m + n) 0 (λ e. omega arith)
near_is (negsuc m) (negsuc n) g h =
    level (suc m) (suc n) (omega (arith, in_range_mag (negsuc m) g)) (omega (arith, in_range_mag (negsuc n) h)) true
    ∙ eqb_same (suc m) (suc n) m n (λ e. omega arith) (λ e. omega arith)

-- Assumes nothing.
