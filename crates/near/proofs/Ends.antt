-- The ends of a range: R of an f32 nearest to (P - M) / Q is within 5/8 of it, so a row or column nearer than 3/8 beyond it is on its side, and one farther than 5/8 is not.
use mathlib.Core.Path.{◌≡◌, refl, sym, ap, ◌∙◌}
use mathlib.Core.Bool.{Bool, true, false, not, ◌&&◌, cond, beq}
use Prim.Native.Nat.{ℕ, zero, suc, ◌+◌, ◌-◌, ◌*◌, ◌^◌, ◌≤◌, ◌<◌}
use native.Mathlib.Nat.{le_of_suc-le-suc, lt_of_mul-lt-mul_right, mul-le-mul_right, mul-lt-mul_of_pos_right, mul-pos, mul_assoc, mul_comm, mul_right_comm, mul-sub}
use native.Mathlib.Omega.{arith}
use lib.Dec.{T, ltb, leb→le, le→leb, lt→ltb, ltb→lt, nltb→le}
use lib.IntN.{pos}
use lib.Signed.{le_z}
use lib.Ieee.{Float, nan, inf, fin, binary32, up, down, round, sum, add, sub, neg}
use lib.Ieee.Fits.{down_pos}
use lib.Ieee.Exact.{HasValue}
use lib.Ieee.Scale.{round_same}
use Rattle.wholes.specs.Whole.{round_of}
use Rattle.ieee754.specs.Ieee754.{signed}
use Rattle.near.proofs.Settled.{settled}

-- ±h as the first and as the last of a range, against the value (P - M) / Q
pub record Ends (s : Bool) (h P M Q : ℕ) : Type 0 where
  pub begins : (y : ℕ) → 8 * P < 8 * (y * Q) + 8 * M + 3 * Q → T (le_z (signed s h) (pos y))
  pub begun : (y : ℕ) → T (le_z (signed s h) (pos y)) → 8 * P ≤ 8 * (y * Q) + 8 * M + 5 * Q
  pub lasts : (y : ℕ) → 8 * (y * Q) + 8 * M < 8 * P + 3 * Q → T (le_z (pos y) (signed s h))
  pub lasted : (y : ℕ) → T (le_z (pos y) (signed s h)) → 8 * (y * Q) + 8 * M ≤ 8 * P + 5 * Q
  pub above : M < P → s ≡ false

-- R of x is ±h, which is not large, and an end of a range by (P - M) / Q
pub record End (x : Float) (P M Q : ℕ) : Type 0 where
  pub s : Bool
  pub h : ℕ
  pub value : HasValue (round_of binary32 x) s h 1
  pub few : h < 2 ^ 23
  pub ends : Ends s h P M Q

pub moved : {Q : ℕ} {x y : Float} {P R M N : ℕ} → x ≡ y → P ≡ R → M ≡ N → End x P M Q → End y R N Q
moved {Q} {x} {y} {P} {R} {M} {N} e f g z = rw (← e, ← f, ← g) z

-- ±n is P - M
abbrev By : Bool → ℕ → ℕ → ℕ → Type 0
By false n P M = P ≡ n + M
By true n P M = M ≡ n + P

no_more : (h y Q : ℕ) → h * Q < suc y * Q → h ≤ y
no_more h y Q g = le_of_suc-le-suc (lt_of_mul-lt-mul_right Q g)

module _ (n P M Q : ℕ) (Q-pos : 0 < Q) where
  by_sign : (s : Bool) → By s n P M → (h : ℕ) → 8 * (h * Q) ≤ 8 * n + 5 * Q → 8 * n ≤ 8 * (h * Q) + 5 * Q → Ends s h P M Q
  by_sign false e h o u = record {
    begins = λ y k. le→leb h y (no_more h y Q (omega arith));
    begun = λ y t. let l = mul-le-mul_right Q (leb→le h y t) in omega arith;
    lasts = λ y k. le→leb y h (no_more y h Q (omega arith));
    lasted = λ y t. let l = mul-le-mul_right Q (leb→le y h t) in omega arith;
    above = λ l. refl;
  }
  by_sign true e zero o u = record {
    begins = λ y k. le→leb 0 y (omega arith);
    begun = λ y t. omega arith;
    lasts = λ y k. le→leb y 0 (no_more y 0 Q (omega arith));
    lasted = λ y t. let l = mul-le-mul_right Q (leb→le y 0 t) in omega arith;
    above = λ l. absurd (omega arith);
  }
  by_sign true e (suc h) o u = record {
    begins = λ y k. tt;
    begun = λ y t. omega arith;
    lasts = λ y k. absurd (omega arith);
    lasted = λ y t. absurd t;
    above = λ l. absurd (omega arith);
  }

  end_of : n ≤ 2 ^ 22 * Q → (s : Bool) → By s n P M → End (round binary32 s n Q) P M Q
  end_of small s e =
      let z = settled s n Q Q-pos small in
      record { s = s; h = z.h; value = z.is; few = lt_of_mul-lt-mul_right Q (go (z.h * Q) z.over); ends = by_sign s e z.h z.over z.under }
    where
      go : (p : ℕ) → 8 * p ≤ 8 * n + 5 * Q → p < 8388608 * Q
      go p o = omega arith

-- ---- a sum of ±A / Q and ±B / Q

-- the parts of ±n: above 0 and below
abbrev pub plus_of : Bool → ℕ → ℕ
plus_of s n = cond s 0 n

abbrev pub minus_of : Bool → ℕ → ℕ
minus_of s n = cond s n 0

pub sum_end : (A B Q : ℕ) → 0 < Q → A + B ≤ 2 ^ 22 * Q → (s t : Bool) → End (sum binary32 s A t B Q) (plus_of s A + plus_of t B) (minus_of s A + minus_of t B) Q
unfolding sum
sum_end A B Q Q-pos small false false = end_of (A + B) (A + B) 0 Q Q-pos small false (omega arith)
sum_end A B Q Q-pos small true true = end_of (A + B) 0 (A + B) Q Q-pos small true (omega arith)
sum_end A B Q Q-pos small false true = go (ltb A B) (ltb→lt A B) (nltb→le A B)
  where
    go : (b : Bool) → (T b → A < B) → (T (not b) → B ≤ A) → End (cond b (round binary32 true (B - A) Q) (round binary32 false (A - B) Q)) (A + 0) (0 + B) Q
    go true f g = let l = f tt in end_of (B - A) (A + 0) (0 + B) Q Q-pos (omega arith) true (omega arith)
    go false f g = let l = g tt in end_of (A - B) (A + 0) (0 + B) Q Q-pos (omega arith) false (omega arith)
sum_end A B Q Q-pos small true false = go (ltb A B) (ltb→lt A B) (nltb→le A B) (ltb B A) (nltb→le B A)
  where
    go : (b : Bool) → (T b → A < B) → (T (not b) → B ≤ A) → (c : Bool) → (T (not c) → A ≤ B)
        → End (cond b (round binary32 false (B - A) Q) (round binary32 (true && c) (A - B) Q)) (0 + B) (A + 0) Q
    go true f g c k = let l = f tt in end_of (B - A) (0 + B) (A + 0) Q Q-pos (omega arith) false (omega arith)
    go false f g true k = let l = g tt in end_of (A - B) (0 + B) (A + 0) Q Q-pos (omega arith) true (omega arith)
    go false f g false k = let l = g tt in let m = k tt in end_of (A - B) (0 + B) (A + 0) Q Q-pos (omega arith) false (omega arith)

-- ---- and of two floats of these values

-- a sum by its signs
sum_is : (s t : Bool) (a b c : ℕ)
    → sum binary32 s a t b c ≡ cond (beq s t) (round binary32 s (a + b) c) (cond (ltb a b) (round binary32 t (b - a) c) (round binary32 (s && ltb b a) (a - b) c))
unfolding sum
sum_is s t a b c = refl

-- fractions of equal value compare alike, and a sum depends on the values only
module _ (c Q : ℕ) (c_pos : 0 < c) (Q-pos : 0 < Q) where
  less_too : (a b A B : ℕ) → a * Q ≡ A * c → b * Q ≡ B * c → T (ltb a b) → T (ltb A B)
  less_too a b A B e f t =
      let l : A * c < B * c = rw (← e, ← f) (mul-lt-mul_of_pos_right (ltb→lt a b t) Q-pos) in
      lt→ltb A B (lt_of_mul-lt-mul_right c l)

module _ (a b c A B Q : ℕ) (c_pos : 0 < c) (Q-pos : 0 < Q) (e : a * Q ≡ A * c) (f : b * Q ≡ B * c) where
  ltb_same : ltb a b ≡ ltb A B
  ltb_same = go (ltb a b) (ltb A B) (less_too c Q c_pos Q-pos a b A B e f) (less_too Q c Q-pos c_pos A B a b (sym e) (sym f))
    where
      go : (p q : Bool) → (T p → T q) → (T q → T p) → p ≡ q
      go true true u v = refl
      go true false u v = absurd (u tt)
      go false true u v = absurd (v tt)
      go false false u v = refl

  less : (b - a) * Q ≡ (B - A) * c
  less = apart_from b a Q ∙ rw (e, f) (sym (apart_from B A c))
    where
      apart_from : (m n k : ℕ) → (m - n) * k ≡ m * k - n * k
      apart_from m n k = mul_comm (m - n) k ∙ mul-sub k m n ∙ rw (mul_comm k m, mul_comm k n)

sum_same : (s t : Bool) (a b c A B Q : ℕ) → 0 < c → 0 < Q → a * Q ≡ A * c → b * Q ≡ B * c → sum binary32 s a t b c ≡ sum binary32 s A t B Q
sum_same s t a b c A B Q C P e f =
    let more : (a + b) * Q ≡ (A + B) * c = omega arith in
    let ab = ltb_same a b c A B Q C P e f in
    let ba = ltb_same b a c B A Q C P f e in
    let p = round_same binary32 s (a + b) c (A + B) Q C P more in
    let q = round_same binary32 t (b - a) c (B - A) Q C P (less a b c A B Q C P e f) in
    let r = round_same binary32 (s && ltb B A) (a - b) c (A - B) Q C P (less b a c B A Q C P f e) in
    rw (sum_is s t a b c, sum_is s t A B Q, ab, ba, p, q, r)

-- a sum of two floats by their values
pub add_is : (x y : Float) (s t : Bool) (A B Q : ℕ) → 0 < Q → HasValue x s A Q → HasValue y t B Q → add binary32 x y ≡ sum binary32 s A t B Q
unfolding add
add_is nan y s t A B Q P v w = absurd v
add_is (inf u) y s t A B Q P v w = absurd v
add_is (fin u m e) nan s t A B Q P v w = absurd w
add_is (fin u m e) (inf r) s t A B Q P v w = absurd w
add_is (fin u m e) (fin r n d) s t A B Q P v w =
    rw (v.0, w.0)
    (sum_same s t (m * up e * down d) (n * up d * down e) (down e * down d) A B Q (mul-pos (down_pos e) (down_pos d)) P (left (m * up e) (down e) (down d) v.1) (right (n * up d) (down d) (down e) w.1))
  where
    left : (u p q : ℕ) → u * Q ≡ A * p → u * q * Q ≡ A * (p * q)
    left u p q h = mul_right_comm u q Q ∙ ap (λ (z : ℕ). z * q) h ∙ mul_assoc A p q

    right : (u p q : ℕ) → u * Q ≡ B * p → u * q * Q ≡ B * (q * p)
    right u p q h = mul_right_comm u q Q ∙ ap (λ (z : ℕ). z * q) h ∙ mul_assoc B p q ∙ ap (λ (z : ℕ). B * z) (mul_comm p q)

neg_value : (x : Float) (s : Bool) (A Q : ℕ) → HasValue x s A Q → HasValue (neg x) (not s) A Q
unfolding neg
neg_value nan s A Q v = absurd v
neg_value (inf u) s A Q v = absurd v
neg_value (fin u m e) s A Q v = (ap not v.0, v.1)

sub_opened : (x y : Float) → sub binary32 x y ≡ add binary32 x (neg y)
unfolding sub
sub_opened x y = refl

-- and a difference
pub sub_is : (x y : Float) (s t : Bool) (A B Q : ℕ) → 0 < Q → HasValue x s A Q → HasValue y t B Q → sub binary32 x y ≡ sum binary32 s A (not t) B Q
sub_is x y s t A B Q P v w = sub_opened x y ∙ add_is x (neg y) s (not t) A B Q P v (neg_value y t B Q w)

-- Assumes nothing.
