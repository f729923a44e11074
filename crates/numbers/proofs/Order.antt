-- What `compare` and `lt` say: `lt` of two values that are not negative, by the fractions that they equal.
use mathlib.Core.Path.{◌≡◌, sym, subst}
use mathlib.Core.Bool.{true, false, not, true≢false}
use Prim.Native.Nat.{ℕ, ◌*◌, ◌≤◌, ◌<◌, compare, Ordering}
use native.Mathlib.Nat.{not-le_of_lt, lt_of_not-le}
use lib.Dec.{T, is_le, compare_is_eq, eqb, leb→le, nleb→lt, eqb→eq, eqb_refl, ltb→lt, nltb→le}
use lib.Arith.{lt_of_le-ne}
use lib.Ieee.{Float, nan, inf, fin, up, down, lt}
use lib.Ieee.Fits.{down_pos}
use lib.Ieee.Exact.{HasValue}
use lib.Ieee.Order.{transfer}

-- the fact that an ordering stands for
abbrev pub Cmp : Ordering → ℕ → ℕ → Type 0
Cmp Ordering.lt a b = a < b
Cmp Ordering.eq a b = a ≡ b
Cmp Ordering.gt a b = b < a

pub cmp : (a b : ℕ) → Cmp (compare a b) a b
cmp a b = go (compare a b) (leb→le a b) (nleb→lt a b) (eqb→eq a b) (λ (e : a ≡ b). subst (λ (x : ℕ). T (eqb a x)) e (eqb_refl a))
  where
    go : (o : Ordering) → (T (is_le o) → a ≤ b) → (T (not (is_le o)) → b < a) → (T (compare_is_eq o) → a ≡ b) → (a ≡ b → T (compare_is_eq o)) → Cmp o a b
    go Ordering.lt h k e n = lt_of_le-ne (h tt) n
    go Ordering.eq h k e n = e tt
    go Ordering.gt h k e n = k tt

pub lt_yes : (x y : Float) (a c b d : ℕ) → 0 < c → 0 < d → HasValue x false a c → HasValue y false b d → T (lt x y) → a * d < b * c
unfolding lt
lt_yes nan y a c b d C D p q h = absurd p
lt_yes (inf s) y a c b d C D p q h = absurd p
lt_yes (fin true m e) y a c b d C D p q h = absurd (true≢false p.0)
lt_yes (fin false m e) nan a c b d C D p q h = absurd q
lt_yes (fin false m e) (inf t) a c b d C D p q h = absurd q
lt_yes (fin false m e) (fin true n g) a c b d C D p q h = absurd (true≢false q.0)
lt_yes (fin false m e) (fin false n g) a c b d C D p q h =
    lt_of_not-le (λ (k : b * c ≤ a * d). not-le_of_lt (ltb→lt (m * up e * down g) (n * up g * down e) h)
    (transfer (n * up g) (m * up e) (down g) (down e) b a d c D C q.1 p.1 k))

pub lt_no : (x y : Float) (a c b d : ℕ) → HasValue x false a c → HasValue y false b d → T (not (lt x y)) → b * c ≤ a * d
unfolding lt
lt_no nan y a c b d p q h = absurd p
lt_no (inf s) y a c b d p q h = absurd p
lt_no (fin true m e) y a c b d p q h = absurd (true≢false p.0)
lt_no (fin false m e) nan a c b d p q h = absurd q
lt_no (fin false m e) (inf t) a c b d p q h = absurd q
lt_no (fin false m e) (fin true n g) a c b d p q h = absurd (true≢false q.0)
lt_no (fin false m e) (fin false n g) a c b d p q h =
    transfer b a d c (n * up g) (m * up e) (down g) (down e) (down_pos g) (down_pos e) (sym q.1) (sym p.1) (nltb→le (m * up e * down g) (n * up g * down e) h)

-- Assumes nothing.
