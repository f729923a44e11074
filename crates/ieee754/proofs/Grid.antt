-- The values of a format around a number: multiples of 2 ^ k, and what lies below them all. Of two neighbours the nearer is taken, and at the middle the even one.
use mathlib.Core.Path.{◌≡◌, refl, sym, ◌∙◌, subst}
use mathlib.Core.Logic.{◌⊎◌, inl, inr}
use mathlib.Core.Bool.{Bool, true, false, not}
use Prim.Native.Nat.{ℕ, zero, suc, ◌+◌, ◌*◌, ◌%◌, ◌≤◌, ◌<◌, Ordering}
use native.Mathlib.Nat.{le_trans, le_of_lt, lt_irrefl, lt_of_lt_of_le, lt_of_not-le, mod-lt, zero-lt-suc, mul-le-mul_right}
use native.Mathlib.Numerals.{add-one}
use native.Mathlib.Omega.{arith}
use lib.Dec.{T, ltb, ltb→lt, nltb→le}
use lib.Arith.{lt_of_le-ne}
use lib.Ieee.{nearest}

abbrev pub Grid : ℕ → ℕ → ℕ → Type 0
Grid u t Y = ((a : ℕ) × (Y ≡ a * u)) ⊎ (Y < t)

more : (u a b : ℕ) → b * u < a * u → b + 1 ≤ a
more u a b h = go (lt_of_not-le (λ (g : a ≤ b). lt_irrefl (b * u) (lt_of_lt_of_le h (mul-le-mul_right u g))))
  where
    go : b < a → b + 1 ≤ a
    go h = omega arith

-- a grid value above q * u is at (q + 1) * u or above, and one below (q + 1) * u at q * u or below
pub next_up : (u t q Y : ℕ) → t ≤ q * u → Grid u t Y → q * u < Y → (q + 1) * u ≤ Y
next_up u t q Y T (inl g) h = subst (λ (z : ℕ). (q + 1) * u ≤ z) (sym g.1) (mul-le-mul_right u (more u g.0 q (subst (λ (z : ℕ). q * u < z) g.1 h)))
next_up u t q Y T (inr g) h = absurd (lt_irrefl Y (lt_of_lt_of_le g (le_trans T (le_of_lt h))))

next_down : (u t q Y : ℕ) → t ≤ q * u → Grid u t Y → Y < (q + 1) * u → Y ≤ q * u
next_down u t q Y T (inl g) h = subst (λ (z : ℕ). z ≤ q * u) (sym g.1) (mul-le-mul_right u (go g.0 q (more u (q + 1) g.0 (subst (λ (z : ℕ). z < (q + 1) * u) g.1 h))))
  where
    go : (a q : ℕ) → a + 1 ≤ q + 1 → a ≤ q
    go a q h = omega arith
next_down u t q Y T (inr g) h = le_trans (le_of_lt g) T

-- where the number lies beside the middle of two neighbours
abbrev pub Beside : Ordering → Type 0 → Type 0 → Type 0
Beside Ordering.lt below above = (below → ⊥) × above
Beside Ordering.eq below above = below × above
Beside Ordering.gt below above = below × (above → ⊥)

-- r is nearest among the values Y, and even where Y is as near
pub record Sides (under over : ℕ → Type 0) (Y r v : ℕ) : Type 0 where
  pub below : Y < v → under (Y + v)
  pub above : v < Y → over (Y + v)
  pub even : (Y ≡ v → ⊥) → under (Y + v) → over (Y + v) → r % 2 ≡ 0

sum_le : (a b c : ℕ) → a ≤ b → a + c ≤ b + c
sum_le a b c h = omega arith

sum_lt : (a b c : ℕ) → a < b → a + c < b + c
sum_lt a b c h = omega arith

next_le : (q u Y : ℕ) → (q + 1) * u ≤ Y → q * u + (q + 1) * u ≤ Y + q * u
next_le q u Y h = go ((q + 1) * u) (q * u) h
  where
    go : (a b : ℕ) → a ≤ Y → b + a ≤ Y + b
    go a b h = omega arith

either : (Y v : ℕ) → (Y ≡ v → ⊥) → (Y < v) ⊎ (v < Y)
either Y v h = go (ltb Y v) (ltb→lt Y v) (nltb→le Y v)
  where
    go : (t : Bool) → (T t → Y < v) → (T (not t) → v ≤ Y) → (Y < v) ⊎ (v < Y)
    go true a b = inl (a tt)
    go false a b = inr (lt_of_le-ne (b tt) (λ (e : v ≡ Y). h (sym e)))

module _ (under over : ℕ → Type 0) (less : (a b : ℕ) → a ≤ b → under b → under a) (greater : (a b : ℕ) → a ≤ b → over a → over b) (apart : (a b : ℕ) → a < b → over a → under b → ⊥)
    (q u t : ℕ) (lo : under (q * u + q * u)) (hi : over ((q + 1) * u + (q + 1) * u)) (reach : t ≤ q * u) (Y : ℕ) (g : Grid u t Y) where
  abbrev mid : ℕ
  mid = q * u + (q + 1) * u

  at_q : over mid → (under mid → q % 2 ≡ 0) → Sides under over Y q (q * u)
  at_q m e = record {
    below = λ h. less (Y + q * u) (q * u + q * u) (sum_le Y (q * u) (q * u) (le_of_lt h)) lo;
    above = λ h. greater mid (Y + q * u) (next_le q u Y (next_up u t q Y reach g h)) m;
    even = λ n a b. elim (either Y (q * u) n) [
      | inl h ↦ absurd (apart (Y + q * u) (q * u + q * u) (sum_lt Y (q * u) (q * u) h) b lo)
      | inr h ↦ e (less mid (Y + q * u) (next_le q u Y (next_up u t q Y reach g h)) a)
    ];
  }

  at_next : under mid → (over mid → (q + 1) % 2 ≡ 0) → Sides under over Y (q + 1) ((q + 1) * u)
  at_next m e = record {
    below = λ h. less (Y + (q + 1) * u) mid (sum_le Y (q * u) ((q + 1) * u) (next_down u t q Y reach g h)) m;
    above = λ h. greater ((q + 1) * u + (q + 1) * u) (Y + (q + 1) * u) (sum_le ((q + 1) * u) Y ((q + 1) * u) (le_of_lt h)) hi;
    even = λ n a b. elim (either Y ((q + 1) * u) n) [
      | inl h ↦ e (greater (Y + (q + 1) * u) mid (sum_le Y (q * u) ((q + 1) * u) (next_down u t q Y reach g h)) b)
      | inr h ↦ absurd (apart ((q + 1) * u + (q + 1) * u) (Y + (q + 1) * u) (sum_lt ((q + 1) * u) Y ((q + 1) * u) h) hi a)
    ];
  }

  tie : (r : ℕ) → (r ≡ 0) ⊎ (r ≡ 1) → q % 2 ≡ r → under mid → over mid → Sides under over Y (q + r) ((q + r) * u)
  tie r (inl e) p a b = subst (λ (z : ℕ). Sides under over Y z (z * u)) (go q r e) (at_q b (λ _. p ∙ e))
    where
      go : (q r : ℕ) → r ≡ 0 → q ≡ q + r
      go q r e = omega arith
  tie r (inr e) p a b = subst (λ (z : ℕ). Sides under over Y z (z * u)) (go q r e) (at_next a (λ _. go2 q (p ∙ e)))
    where
      go : (q r : ℕ) → r ≡ 1 → q + 1 ≡ q + r
      go q r e = omega arith

      go2 : (q : ℕ) → q % 2 ≡ 1 → (q + 1) % 2 ≡ 0
      go2 q e = omega arith

  zero_or_one : (r : ℕ) → r < 2 → (r ≡ 0) ⊎ (r ≡ 1)
  zero_or_one zero h = inl refl
  zero_or_one (suc zero) h = inr refl
  zero_or_one (suc (suc r)) h = absurd (omega arith)

  pub picked : (o : Ordering) → Beside o (under (q * u + (q + 1) * u)) (over (q * u + (q + 1) * u)) → Sides under over Y (nearest q o) (nearest q o * u)
  picked Ordering.lt c = at_q c.1 (λ a. absurd (c.0 a))
  picked Ordering.eq c = tie (q % 2) (zero_or_one (q % 2) (mod-lt q (zero-lt-suc 1))) refl c.0 c.1
  picked Ordering.gt c = subst (λ (z : ℕ). Sides under over Y z (z * u)) (add-one q) (at_next c.0 (λ b. absurd (c.1 b)))

-- Assumes nothing.
