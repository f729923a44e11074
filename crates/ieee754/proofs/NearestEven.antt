-- The nearest value, a tie to the even one: a fraction, as `round` has it, and a root.
use mathlib.Core.Path.{◌≡◌, refl, sym, ap, ◌∙◌, subst}
use mathlib.Core.Logic.{inl, inr}
use mathlib.Core.Bool.{Bool, true, false}
use Prim.Native.Nat.{ℕ, suc, ◌+◌, ◌-◌, ◌*◌, ◌/◌, ◌%◌, ◌^◌, ◌≤◌, ◌<◌, compare, Ordering}
use native.Mathlib.Nat.{le_trans, le_of_lt, le_of_eq, lt_irrefl, lt_of_lt_of_le, lt_of_le_of_lt, lt_of_not-le, mul_assoc, mul_comm, mul_right_comm, add-mul, mul-le-mul_right, mul-lt-mul_of_pos_right, mul-pos, div-add-mod', mod-lt, le-div_iff_mul-le, div-lt_iff_lt-mul, div-div-eq-div-mul, mul-one, mul_left_comm, pow-suc, eq-or-lt_of_le, le_of_mul-le-mul_right, zero-lt-suc}
use native.Mathlib.Omega.{arith}
use lib.Dec.{T, lit≤}
use lib.Pow.{pow-add, pow_pos, pow_mono, pow-lt}
use lib.Ieee.{Float, nan, inf, fin, neg, lt, eq, le, Format, binary32, binary64, prec, emax, low, size, nearest, units, round, fits}
use lib.Ieee.Digits.{size-lt, size-le, size_reaches}
use lib.Ieee.Fits.{two, two-le_pos, nearest-le, round_is, kept-lt}
use lib.Ieee.Exact.{HasValue, units_val}
use lib.Ieee.Nearest.{nearest-ge}
use lib.Ieee.Order.{round_mono}
use Rattle.numbers.proofs.Order.{Cmp, cmp}
use Rattle.numbers.proofs.Units.{neg_round}
use Rattle.ieee754.specs.Ieee754.{NearestEven, NearestFraction, too_large}
use Rattle.ieee754.proofs.Grid.{Beside, Sides, picked}
use Rattle.ieee754.proofs.Values as values

-- ---- the kept number, once over what is asked of the number
module _ (f : Format) (s : Bool) (under over : ℕ → Type 0) (less : (a b : ℕ) → a ≤ b → under b → under a) (greater : (a b : ℕ) → a ≤ b → over a → over b) (apart : (a b : ℕ) → a < b → over a → under b → ⊥)
    (q k : ℕ) (lo : under (q * 2 ^ k + q * 2 ^ k)) (hi : over ((q + 1) * 2 ^ k + (q + 1) * 2 ^ k)) (full : 0 < k → 2 ^ (prec f - 1) ≤ q) (small : q < 2 ^ prec f)
    (o : Ordering) (beside : Beside o (under (q * 2 ^ k + (q + 1) * 2 ^ k)) (over (q * 2 ^ k + (q + 1) * 2 ^ k))) (fine : nearest q o * 2 ^ k < 2 ^ (low f + suc (emax f))) where
  few : nearest q o ≤ 2 ^ prec f
  few = le_trans (nearest-le q o) small

  all_digits : 0 < k → 2 ^ (prec f - 1) ≤ nearest q o
  all_digits h = le_trans (full h) (nearest-ge q o)

  sides : (y : Float) (Y : ℕ) → T (fits f y) → HasValue y s Y (2 ^ low f) → Sides under over Y (nearest q o) (nearest q o * 2 ^ k)
  sides y Y F v = picked under over less greater apart q (2 ^ k) (values.leading k (2 ^ (prec f - 1)) * 2 ^ k) lo hi (values.reach f k q full) Y (values.grid f k y s Y F v) o beside

  pub nearest_kept : NearestEven f s under over (units f s (nearest q o) k)
  nearest_kept = record {
    held = values.units_held f s (nearest q o) k few fine;
    size = nearest q o * 2 ^ k;
    is = units_val f s (nearest q o) k fine;
    below = λ y Y F v. (sides y Y F v).below;
    above = λ y Y F v. (sides y Y F v).above;
    even = λ y Y F v n a b. values.last_digit f s (nearest q o) k few fine all_digits ∙ (sides y Y F v).even n a b;
  }

-- ---- a fraction a / c, in units n / c
module _ (f : Format) (s : Bool) (n c : ℕ) (C : 0 < c) where
  abbrev k : ℕ
  k = size (n / c) - prec f

  abbrev U : ℕ
  U = c * 2 ^ (size (n / c) - prec f)

  abbrev q : ℕ
  q = n / (c * 2 ^ (size (n / c) - prec f))

  abbrev o : Ordering
  o = compare (n % (c * 2 ^ (size (n / c) - prec f)) * 2) (c * 2 ^ (size (n / c) - prec f))

  U_pos : 0 < U
  U_pos = mul-pos C (pow_pos k)

  sum : q * U + n % U ≡ n
  sum = div-add-mod' n U

  rest : n % U < U
  rest = mod-lt n U_pos

  unit : (a : ℕ) → a * 2 ^ k * c ≡ a * U
  unit a = mul_assoc a (2 ^ k) c ∙ ap (λ (z : ℕ). a * z) (mul_comm (2 ^ k) c)

  twice : (a b : ℕ) → (a * 2 ^ k + b * 2 ^ k) * c ≡ a * U + b * U
  twice a b = add-mul (a * 2 ^ k) (b * 2 ^ k) c ∙ ap (λ (z : ℕ). z + b * 2 ^ k * c) (unit a) ∙ ap (λ (z : ℕ). a * U + z) (unit b)

  next : (q + 1) * U ≡ q * U + U
  next = add-mul q 1 U ∙ go (q * U) U
    where
      go : (p u : ℕ) → p + 1 * u ≡ p + u
      go p u = omega arith

  abbrev under : ℕ → Type 0
  under M = M * c ≤ 2 * n

  abbrev over : ℕ → Type 0
  over M = 2 * n ≤ M * c

  lo : under (q * 2 ^ k + q * 2 ^ k)
  lo = le_trans (le_of_eq (twice q q)) (go (q * U) (n % U) n sum)
    where
      go : (p r n : ℕ) → p + r ≡ n → p + p ≤ 2 * n
      go p r n e = omega arith

  hi : over ((q + 1) * 2 ^ k + (q + 1) * 2 ^ k)
  hi = le_trans (go (q * U) (n % U) n U ((q + 1) * U) sum rest next) (le_of_eq (sym (twice (q + 1) (q + 1))))
    where
      go : (p r n u v : ℕ) → p + r ≡ n → r < u → v ≡ p + u → 2 * n ≤ v + v
      go p r n u v e h g = omega arith

  middle : (q * 2 ^ k + (q + 1) * 2 ^ k) * c ≡ 2 * (q * U) + U
  middle = twice q (q + 1) ∙ go (q * U) U ((q + 1) * U) next
    where
      go : (p u v : ℕ) → v ≡ p + u → p + v ≡ 2 * p + u
      go p u v g = omega arith

  beside : (w : Ordering) → Cmp w (n % U * 2) U → Beside w (under (q * 2 ^ k + (q + 1) * 2 ^ k)) (over (q * 2 ^ k + (q + 1) * 2 ^ k))
  beside Ordering.lt h = (λ g. no (q * U) (n % U) n U sum h (subst (λ (z : ℕ). z ≤ 2 * n) middle g), subst (λ (z : ℕ). 2 * n ≤ z) (sym middle) (yes (q * U) (n % U) n U sum h))
    where
      no : (p r n u : ℕ) → p + r ≡ n → r * 2 < u → 2 * p + u ≤ 2 * n → ⊥
      no p r n u e h g = omega arith

      yes : (p r n u : ℕ) → p + r ≡ n → r * 2 < u → 2 * n ≤ 2 * p + u
      yes p r n u e h = omega arith
  beside Ordering.eq h = (subst (λ (z : ℕ). z ≤ 2 * n) (sym middle) (low_side (q * U) (n % U) n U sum h), subst (λ (z : ℕ). 2 * n ≤ z) (sym middle) (high_side (q * U) (n % U) n U sum h))
    where
      low_side : (p r n u : ℕ) → p + r ≡ n → r * 2 ≡ u → 2 * p + u ≤ 2 * n
      low_side p r n u e h = omega arith

      high_side : (p r n u : ℕ) → p + r ≡ n → r * 2 ≡ u → 2 * n ≤ 2 * p + u
      high_side p r n u e h = omega arith
  beside Ordering.gt h = (subst (λ (z : ℕ). z ≤ 2 * n) (sym middle) (yes (q * U) (n % U) n U sum h), λ g. no (q * U) (n % U) n U sum h (subst (λ (z : ℕ). 2 * n ≤ z) middle g))
    where
      yes : (p r n u : ℕ) → p + r ≡ n → u < r * 2 → 2 * p + u ≤ 2 * n
      yes p r n u e h = omega arith

      no : (p r n u : ℕ) → p + r ≡ n → u < r * 2 → 2 * n ≤ 2 * p + u → ⊥
      no p r n u e h g = omega arith

  cut : q ≡ n / c / 2 ^ k
  cut = sym (div-div-eq-div-mul n c (2 ^ k))

  full : 0 < k → 2 ^ (prec f - 1) ≤ q
  full h = le_trans ((le-div_iff_mul-le (pow_pos k)).1 (le_trans (le_of_eq (sym (pow-add 2 (prec f - 1) k))) (size_reaches (n / c) (prec f - 1 + k) (go (size (n / c)) (prec f) (two-le_pos (prec f) (two f)) h)))) (le_of_eq (sym cut))
    where
      go : (z p : ℕ) → 0 < p → 0 < z - p → p - 1 + (z - p) < z
      go z p P h = omega arith

  small : q < 2 ^ prec f
  small = lt_of_le_of_lt (le_of_eq cut) (kept-lt (prec f) (n / c))

  pub kept_nearest : nearest q o * 2 ^ k < 2 ^ (low f + suc (emax f)) → NearestEven f s (λ (M : ℕ). M * c ≤ 2 * n) (λ (M : ℕ). 2 * n ≤ M * c) (units f s (nearest q o) k)
  kept_nearest fine = nearest_kept f s under over (λ a b h g. le_trans (mul-le-mul_right c h) g) (λ a b h g. le_trans g (mul-le-mul_right c h))
      (λ a b h g l. lt_irrefl (a * c) (lt_of_lt_of_le (mul-lt-mul_of_pos_right h C) (le_trans l g))) q k lo hi full small o (beside o (cmp (n % U * 2) U)) fine

  -- below half a step past the largest value it stays finite
  most : nearest q o ≤ 2 ^ prec f
  most = le_trans (nearest-le q o) small

  room : n / c < 2 ^ (low f + emax f) → nearest q o * 2 ^ k < 2 ^ (low f + suc (emax f))
  room h = lt_of_le_of_lt (mul-le-mul_right (2 ^ k) most) (lt_of_le_of_lt (le_of_eq (sym (pow-add 2 (prec f) k))) (pow-lt (go f (size (n / c)) (size-le (n / c) (low f + emax f) h))))
    where
      go : (g : Format) (z : ℕ) → z ≤ low g + emax g → prec g + (z - prec g) < low g + suc (emax g)
      go binary32 z h = omega arith
      go binary64 z h = omega arith

  -- the step up from the largest kept number is taken only from half a step on
  step_up : (w : Ordering) → Cmp w (n % U * 2) U → suc q ≤ nearest q w → U ≤ n % U * 2
  step_up Ordering.lt h l = absurd (go q l)
    where
      go : (q : ℕ) → suc q ≤ q → ⊥
      go q l = omega arith
  step_up Ordering.eq h l = le_of_eq (sym h)
  step_up Ordering.gt h l = le_of_lt h

  module _ (below : n < too_large f * 2 ^ low f * c) where
    abbrev E : ℕ
    E = low f + suc (emax f)

    last_place : (g : Format) → low g + suc (emax g) - prec g ≡ suc (emax g - prec g + low g)
    last_place binary32 = refl
    last_place binary64 = refl

    in_range_lem : (g : Format) → too_large g * 2 ^ low g ≤ 2 ^ (low g + suc (emax g))
    in_range_lem binary32 = lit≤ tt
    in_range_lem binary64 = lit≤ tt

    covered : (g : Format) → prec g + (low g + suc (emax g) - prec g) ≡ low g + suc (emax g)
    covered binary32 = refl
    covered binary64 = refl

    digits_le : size (n / c) ≤ E
    digits_le = size-le (n / c) E ((div-lt_iff_lt-mul C).1 (lt_of_lt_of_le below (mul-le-mul_right c (in_range_lem f))))

    top : size (n / c) ≡ E → 2 ^ E ≤ nearest q o * 2 ^ k → ⊥
    top e g =
        let h = 2 ^ (emax f - prec f + low f) in
        let P = 2 ^ prec f in
        let ke : k ≡ E - prec f = ap (λ (z : ℕ). z - prec f) e in
        let two-h : 2 ^ k ≡ h * 2 = ap (λ (z : ℕ). 2 ^ z) (ke ∙ last_place f) ∙ pow-suc 2 (emax f - prec f + low f) in
        let all : P * 2 ^ k ≡ 2 ^ E = sym (pow-add 2 (prec f) k) ∙ ap (λ (z : ℕ). 2 ^ z) (ap (λ (z : ℕ). prec f + z) ke ∙ covered f) in
        let reached : P ≤ nearest q o = le_of_mul-le-mul_right (le_trans (le_of_eq all) g) (pow_pos k) in
        let u : U ≤ n % U * 2 = step_up o (cmp (n % U * 2) U) (le_trans small reached) in
        let p : suc q ≡ P = same (suc q) P small (le_trans reached (nearest-le q o)) in
        let T2 : too_large f * 2 ^ low f * c * 2 ≡ 2 * (q * U) + U =
        ap (λ (z : ℕ). z * c * 2) (mul_assoc (2 ^ suc (prec f) - 1) (2 ^ (emax f - prec f)) (2 ^ low f) ∙ ap (λ (z : ℕ). (2 ^ suc (prec f) - 1) * z) (sym (pow-add 2 (emax f - prec f) (low f))))
        ∙ ap (λ (z : ℕ). z * h * c * 2) (ap (λ (z : ℕ). z - 1) (pow-suc 2 (prec f)) ∙ odd_one P q p)
        ∙ regroup (2 * q + 1) h c
        ∙ ap (λ (z : ℕ). (2 * q + 1) * (c * z)) (sym two-h)
        ∙ add-mul (2 * q) 1 U ∙ spread q U in
        clash n (too_large f * 2 ^ low f * c) (q * U) (n % U) U sum below T2 u
      where
        same : (a b : ℕ) → a ≤ b → b ≤ a → a ≡ b
        same a b h g = omega arith

        odd_one : (P q : ℕ) → suc q ≡ P → P * 2 - 1 ≡ 2 * q + 1
        odd_one P q e = omega arith

        regroup : (a h c : ℕ) → a * h * c * 2 ≡ a * (c * (h * 2))
        regroup a h c = mul_assoc (a * h) c 2 ∙ mul_assoc a h (c * 2) ∙ ap (λ (z : ℕ). a * z) (mul_left_comm h c 2)

        spread : (q u : ℕ) → 2 * q * u + 1 * u ≡ 2 * (q * u) + u
        spread q u = ap (λ (z : ℕ). z + 1 * u) (mul_assoc 2 q u) ∙ go (2 * (q * u)) u
          where
            go : (a u : ℕ) → a + 1 * u ≡ a + u
            go a u = omega arith

        clash : (n t p r u : ℕ) → p + r ≡ n → n < t → t * 2 ≡ 2 * p + u → u ≤ r * 2 → ⊥
        clash n t p r u a b d e = omega arith

    pub fine : nearest q o * 2 ^ k < 2 ^ (low f + suc (emax f))
    fine = elim (eq-or-lt_of_le digits_le) [
      | inl e ↦ lt_of_not-le (top e)
      | inr l ↦ room (lt_of_lt_of_le (size-lt (n / c)) (pow_mono (go (size (n / c)) (low f) (emax f) l)))
    ]
      where
        go : (z a b : ℕ) → z < a + suc b → z ≤ a + b
        go z a b h = omega arith

pub round_nearest : (f : Format) (s : Bool) (a c : ℕ) → 0 < c → a < too_large f * c → NearestFraction f s a c (round f s a c)
round_nearest f s a c C h =
    let n = a * 2 ^ low f in
    subst (λ (x : Float). NearestFraction f s a c x) (sym (round_is f s a c)) (kept_nearest f s n c C (fine f s n c C (lt_of_lt_of_le (mul-lt-mul_of_pos_right h (pow_pos (low f))) (le_of_eq (mul_right_comm (too_large f) c (2 ^ low f))))))

-- ---- from half a step past the largest value on, an infinity
infinite : (x : Float) → T (le (inf false) x) → x ≡ inf false
unfolding le lt eq
infinite nan h = absurd h
infinite (inf true) h = absurd h
infinite (inf false) h = refl
infinite (fin s m e) h = absurd h

first_infinite : (f : Format) → round f false (too_large f) 1 ≡ inf false
unfolding round
first_infinite binary32 = refl
first_infinite binary64 = refl

too_large_lem : (f : Format) (a c : ℕ) → 0 < c → too_large f * c ≤ a → round f false a c ≡ inf false
too_large_lem f a c C h = infinite (round f false a c) (subst (λ (x : Float). T (le x (round f false a c))) (first_infinite f) (round_mono f (too_large f) 1 a c (zero-lt-suc 0) C (le_trans h (le_of_eq (sym (mul-one a))))))

pub round_infinite : (f : Format) (s : Bool) (a c : ℕ) → 0 < c → too_large f * c ≤ a → round f s a c ≡ inf s
unfolding neg
round_infinite f false a c C h = too_large_lem f a c C h
round_infinite f true a c C h = sym (neg_round f a c) ∙ ap neg (too_large_lem f a c C h)

-- Assumes nothing.
