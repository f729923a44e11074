-- q * 2 ^ w of the smallest values, with q up to 2 ^ prec, rounds to itself; so the product of the code is that many units.
use mathlib.Core.Path.{◌≡◌, refl, sym, ap, ◌∙◌, subst}
use mathlib.Core.Logic.{inl, inr}
use mathlib.Core.Bool.{Bool, true, false, cond, true≢false}
use Prim.Native.Nat.{ℕ, zero, suc, ◌+◌, ◌-◌, ◌*◌, ◌/◌, ◌%◌, ◌^◌, ◌≤◌, ◌<◌, compare}
use native.Mathlib.Nat.{le_of_lt, lt_of_le_of_lt, eq-or-lt_of_le, zero-lt-suc, mul-one, one-mul, mul_comm, mul_assoc, mul-mul-mul_comm, mul-pos, mul-div_cancel, div-one}
use native.Mathlib.Omega.{arith}
use lib.IntN.{pos}
use lib.Dec.{T, ltb, ltb→lt, le→leb}
use lib.Pow.{pow-add, pow_pos, pow-lt, pow_mono, shl_lt}
use lib.Ieee.{Float, nan, inf, fin, Format, prec, emax, low, up, down, size, nearest, odd, units, round, neg, mul, of_int, in_float}
use lib.Ieee.Digits.{size-le}
use lib.Ieee.Fits.{two, two-le_pos, odd-fits, down_pos, round_is, kept-lt}
use lib.Ieee.Exact.{HasValue, odd_sign}
use lib.Ieee.Nearest.{closest, closest_same}
use lib.Ieee.Scale.{round_same}
use lib.Ieee.Back.{round_whole}
use Rattle.numbers.proofs.Unique.{value_unique}

pub of_int_is : (f : Format) (n : ℕ) → of_int f (pos n) ≡ round f false n 1
unfolding of_int
of_int_is f n = refl

pub castable : (f : Format) (n : ℕ) → n ≤ 2 ^ prec f → T (in_float f (pos n))
unfolding in_float
castable f n h = le→leb n (2 ^ prec f) h

-- ---- the sign
neg_odd : (d q k l : ℕ) → neg (odd d false q k l) ≡ odd d true q k l
unfolding neg odd
neg_odd d zero k l = refl
neg_odd d (suc q) k l = refl

neg_units : (f : Format) (q k : ℕ) → neg (units f false q k) ≡ units f true q k
unfolding units neg
neg_units f q k = go (ltb (q * 2 ^ k) (2 ^ (low f + suc (emax f))))
  where
    go : (b : Bool) → neg (cond b (odd (suc (prec f)) false q k (low f)) (inf false)) ≡ cond b (odd (suc (prec f)) true q k (low f)) (inf true)
    go true = neg_odd (suc (prec f)) q k (low f)
    go false = refl

pub neg_round : (f : Format) (n d : ℕ) → neg (round f false n d) ≡ round f true n d
neg_round f n d = ap neg (round_is f false n d) ∙ neg_units f _ _ ∙ sym (round_is f true n d)

-- ---- a product of two values that are not negative
pub product : (f : Format) (x y : Float) (a c b d : ℕ) → 0 < c → 0 < d → HasValue x false a c → HasValue y false b d → mul f x y ≡ round f false (a * b) (c * d)
unfolding mul
product f nan y a c b d C D h k = absurd h
product f (inf s) y a c b d C D h k = absurd h
product f (fin true m e) y a c b d C D h k = absurd (true≢false h.0)
product f (fin false m e) nan a c b d C D h k = absurd k
product f (fin false m e) (inf s) a c b d C D h k = absurd k
product f (fin false m e) (fin true n g) a c b d C D h k = absurd (true≢false k.0)
product f (fin false m e) (fin false n g) a c b d C D h k =
    round_same f false (m * up e * (n * up g)) (down e * down g) (a * b) (c * d) (mul-pos (down_pos e) (down_pos g)) (mul-pos C D)
    (mul-mul-mul_comm (m * up e) (n * up g) c d ∙ ap (λ (z : ℕ). z * (n * up g * d)) h.1 ∙ ap (λ (z : ℕ). a * down e * z) k.1 ∙ mul-mul-mul_comm a (down e) b (down g))

closest_one : (r : ℕ) → closest r 1 ≡ r
closest_one r = ap (λ (z : ℕ). nearest (r / 1) (compare (z * 2) 1)) (go r) ∙ div-one r
  where
    go : (k : ℕ) → k % 1 ≡ 0
    go k = omega arith

closest_exact : (r u : ℕ) → 0 < u → closest (r * u) u ≡ r
closest_exact r u U = closest_same (r * u) u r 1 U (zero-lt-suc 0) (mul-one (r * u)) ∙ closest_one r

module _ (f : Format) where
  P : 0 < prec f
  P = two-le_pos (prec f) (two f)

  -- ---- two ways to write the same number of units
  same_go : (q k r l : ℕ) → q ≤ 2 ^ prec f → r ≤ 2 ^ prec f → q * 2 ^ k ≡ r * 2 ^ l → (b : Bool) → (T b → q * 2 ^ k < 2 ^ (low f + suc (emax f)))
      → cond b (odd (suc (prec f)) false q k (low f)) (inf false) ≡ cond b (odd (suc (prec f)) false r l (low f)) (inf false)
  same_go q k r l Q R e false h = refl
  same_go q k r l Q R e true h =
      value_unique f (odd (suc (prec f)) false q k (low f)) (odd (suc (prec f)) false r l (low f)) false (q * 2 ^ k) (2 ^ low f) (r * 2 ^ l) (2 ^ low f) (pow_pos (low f)) (pow_pos (low f))
      (odd-fits f (suc (prec f)) false q k (lt_of_le_of_lt Q (pow-lt (go (prec f)))) Q (h tt))
      (odd-fits f (suc (prec f)) false r l (lt_of_le_of_lt R (pow-lt (go (prec f)))) R (subst (λ (z : ℕ). z < 2 ^ (low f + suc (emax f))) e (h tt)))
      (odd_sign (suc (prec f)) false q k (low f)) (odd_sign (suc (prec f)) false r l (low f)) (ap (λ (z : ℕ). z * 2 ^ low f) e)
    where
      go : (p : ℕ) → p < suc p
      go p = omega arith

  units_same : (q k r l : ℕ) → q ≤ 2 ^ prec f → r ≤ 2 ^ prec f → q * 2 ^ k ≡ r * 2 ^ l → units f false q k ≡ units f false r l
  unfolding units
  units_same q k r l Q R e =
      same_go q k r l Q R e (ltb (q * 2 ^ k) (2 ^ (low f + suc (emax f)))) (ltb→lt (q * 2 ^ k) (2 ^ (low f + suc (emax f))))
      ∙ ap (λ (z : ℕ). cond (ltb z (2 ^ (low f + suc (emax f)))) (odd (suc (prec f)) false r l (low f)) (inf false)) e

  -- ---- rounding it changes nothing
  exact_lt : (q w : ℕ) → q < 2 ^ prec f → round f false (q * 2 ^ w) (2 ^ low f) ≡ units f false q w
  exact_lt q w h =
      let n = q * 2 ^ w in
      let L = 2 ^ low f in
      let k = size (n * L / L) - prec f in
      let k_le : k ≤ w = spare (size (n * L / L)) (prec f) w (size-le (n * L / L) (prec f + w) (subst (λ (z : ℕ). z < 2 ^ (prec f + w)) (sym (mul-div_cancel n (pow_pos (low f)))) (shl_lt (prec f) w h))) in
      let r = q * 2 ^ (w - k) in
      let e : r * 2 ^ k ≡ n = mul_assoc q (2 ^ (w - k)) (2 ^ k) ∙ ap (λ (z : ℕ). q * z) (sym (pow-add 2 (w - k) k) ∙ ap (λ (z : ℕ). 2 ^ z) (back w k k_le)) in
      let R : r < 2 ^ prec f = subst (λ (z : ℕ). z < 2 ^ prec f) (ap (λ (z : ℕ). z / 2 ^ k) (mul-div_cancel n (pow_pos (low f)) ∙ sym e) ∙ mul-div_cancel r (pow_pos k)) (kept-lt (prec f) (n * L / L)) in
      let c : closest (n * L) (L * 2 ^ k) ≡ r = ap (λ (z : ℕ). closest z (L * 2 ^ k)) (ap (λ (z : ℕ). z * L) (sym e) ∙ mul_assoc r (2 ^ k) L ∙ ap (λ (z : ℕ). r * z) (mul_comm (2 ^ k) L)) ∙ closest_exact r (L * 2 ^ k) (mul-pos (pow_pos (low f)) (pow_pos k)) in
      round_is f false n L ∙ ap (λ (z : ℕ). units f false z k) c ∙ units_same r k q w (le_of_lt R) (le_of_lt h) e
    where
      spare : (z p l : ℕ) → z ≤ p + l → z - p ≤ l
      spare z p l h = omega arith

      back : (a l : ℕ) → l ≤ a → a - l + l ≡ a
      back a l h = omega arith

  top_is : (w : ℕ) → 2 ^ prec f * 2 ^ w ≡ 2 ^ (prec f - 1) * 2 ^ suc w
  top_is w = sym (pow-add 2 (prec f) w) ∙ ap (λ (z : ℕ). 2 ^ z) (go (prec f) w P) ∙ pow-add 2 (prec f - 1) (suc w)
    where
      go : (p b : ℕ) → 0 < p → p + b ≡ p - 1 + suc b
      go p b h = omega arith

  pub exact : (q w : ℕ) → q ≤ 2 ^ prec f → round f false (q * 2 ^ w) (2 ^ low f) ≡ units f false q w
  exact q w h = elim (eq-or-lt_of_le h) [
    | inl e ↦
        let s : q * 2 ^ w ≡ 2 ^ (prec f - 1) * 2 ^ suc w = ap (λ (z : ℕ). z * 2 ^ w) e ∙ top_is w in
        ap (λ (z : ℕ). round f false z (2 ^ low f)) s ∙ exact_lt (2 ^ (prec f - 1)) (suc w) (pow-lt (go (prec f) P)) ∙ units_same (2 ^ (prec f - 1)) (suc w) q w (pow_mono (go2 (prec f))) h (sym s)
    | inr l ↦ exact_lt q w l
  ]
    where
      go : (p : ℕ) → 0 < p → p - 1 < p
      go p h = omega arith

      go2 : (p : ℕ) → p - 1 ≤ p
      go2 p = omega arith

  pub put : (q w : ℕ) (s : Float) → q ≤ 2 ^ prec f → HasValue s false (2 ^ w) (2 ^ low f) → mul f (of_int f (pos q)) s ≡ units f false q w
  put q w s h v =
      product f (of_int f (pos q)) s q 1 (2 ^ w) (2 ^ low f) (zero-lt-suc 0) (pow_pos (low f)) (subst (λ (z : Float). HasValue z false q 1) (sym (of_int_is f q)) (round_whole f false q h)) v
      ∙ ap (λ (z : ℕ). round f false (q * 2 ^ w) z) (one-mul (2 ^ low f))
      ∙ exact q w h

-- Assumes nothing.
