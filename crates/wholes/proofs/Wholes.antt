-- A float made whole: the three rules by a comparison with the whole part, then by sign, and what has no fraction stays.
use mathlib.Core.Path.{◌≡◌, refl, sym, ap, ◌∙◌, subst}
use mathlib.Core.Bool.{Bool, true, false, not, ◌&&◌}
use Prim.Native.Nat.{ℕ, zero, suc, ◌+◌, ◌-◌, ◌*◌, ◌/◌, ◌%◌, ◌^◌, ◌≤◌, ◌<◌, zero-le}
use native.Mathlib.Nat.{le_trans, le_of_eq, lt_irrefl, lt_of_lt_of_le, mul-one, one-mul, mul_assoc, mul_left_comm, add-mul, add_comm, mul-pos, div-lt_iff_lt-mul, div-mul-le_self, div-add-mod', mod-lt, div-eq_of_lt-le, div-one, zero-lt-suc, zero-mul, add-zero, div-eq_of_lt}
use native.Mathlib.Omega.{arith}
use lib.IntN.{ℤ, pos, negsuc}
use lib.Dec.{T, T_not, eqb, leb, ltb, ltb→lt, nltb→le}
use lib.Pow.{pow-add, pow_pos, pow_mono, shl_lt}
use lib.Ieee.{Float, nan, inf, fin, Format, binary32, prec, emax, low, up, down, round, neg, lt, of_int, fits, of_bits}
use lib.Ieee.Fits.{down_pos, and_l, and_r, round-fits}
use lib.Ieee.Exact.{HasValue, round_exact}
use lib.Ieee.Back.{round_whole, whole_unique}
use lib.Ieee.Positive.{num, den, positive, den_pos, own_value}
use Rattle.wholes.specs.Small.{Small}
use Rattle.wholes.specs.Whole.{cut, raised, half, whole_by, downward, upward, away}
use Rattle.numbers.proofs.Zero.{yes, flipped, two_to, null, over, under, not_under, above}
use Rattle.numbers.proofs.Units.{of_int_is, neg_round}
use Rattle.numbers.proofs.Order.{lt_yes}

-- ---- the three rules, by a comparison with the whole part t
module _ (n d : ℕ) (D : 0 < d) where
  abbrev t : ℕ
  t = n / d

  lo : n / d * d ≤ n
  lo = div-mul-le_self n d

  hi : n < n / d * d + d
  hi =
      let e : n / d * d + n % d ≡ n = div-add-mod' n d in
      let l : n % d < d = mod-lt n D in
      omega arith

  next : (n / d + 1) * d ≡ n / d * d + d
  next = add-mul (n / d) 1 d ∙ ap (λ (z : ℕ). n / d * d + z) (one-mul d)

  next2 : (n / d + 1 + 1) * d ≡ n / d * d + d + d
  next2 = add-mul (n / d + 1) 1 d ∙ ap (λ (z : ℕ). z + 1 * d) next ∙ ap (λ (z : ℕ). n / d * d + d + z) (one-mul d)

  pub raised_up : n / d * d < n → raised n d ≡ n / d + 1
  raised_up h =
      let a = lo in let b = hi in let c = next in let c2 = next2 in
      div-eq_of_lt-le d (omega arith) (omega arith)

  pub raised_same : n ≤ n / d * d → raised n d ≡ n / d
  raised_same h =
      let a = lo in let b = hi in let c = next in
      div-eq_of_lt-le d (omega arith) (omega arith)

  two_t : n / d * (2 * d) ≡ 2 * (n / d * d)
  two_t = mul_left_comm (n / d) 2 d

  two_t1 : (n / d + 1) * (2 * d) ≡ 2 * (n / d * d) + 2 * d
  two_t1 = mul_left_comm (n / d + 1) 2 d ∙ ap (λ (z : ℕ). 2 * z) next ∙ go (n / d * d)
    where
      go : (p : ℕ) → 2 * (p + d) ≡ 2 * p + 2 * d
      go p = omega arith

  two_t2 : (n / d + 1 + 1) * (2 * d) ≡ 2 * (n / d * d) + 2 * d + 2 * d
  two_t2 = mul_left_comm (n / d + 1 + 1) 2 d ∙ ap (λ (z : ℕ). 2 * z) next2 ∙ go (n / d * d)
    where
      go : (p : ℕ) → 2 * (p + d + d) ≡ 2 * p + 2 * d + 2 * d
      go p = omega arith

  odd_t : (n / d + n / d + 1) * d ≡ 2 * (n / d * d) + d
  odd_t = add-mul (n / d + n / d) 1 d ∙ ap (λ (z : ℕ). z + 1 * d) (add-mul (n / d) (n / d) d) ∙ go (n / d * d)
    where
      go : (p : ℕ) → p + p + 1 * d ≡ 2 * p + d
      go p = omega arith

  pub half_up : (n / d + n / d + 1) * d ≤ n * 2 → half n d ≡ n / d + 1
  half_up h =
      let a = lo in let b = hi in let o = odd_t in let c = two_t1 in let c2 = two_t2 in
      div-eq_of_lt-le (2 * d) (omega arith) (omega arith)

  pub half_same : n * 2 < (n / d + n / d + 1) * d → half n d ≡ n / d
  half_same h =
      let a = lo in let b = hi in let o = odd_t in let c = two_t in let c1 = two_t1 in
      div-eq_of_lt-le (2 * d) (omega arith) (omega arith)

-- ---- a small value, or its negative, by the code's two comparisons
pub small_by : {x : Float} → lt (of_bits binary32 0) x ≡ true → lt x (of_bits binary32 1258291200) ≡ true → Small x
unfolding of_bits
small_by p q = record { over = yes p; under = yes q }

pub small_turned : (x : Float) → lt x (of_bits binary32 0) ≡ true → lt (neg x) (of_bits binary32 1258291200) ≡ true → Small (neg x)
unfolding of_bits
small_turned x p q = record { over = flipped x (yes p); under = yes q }

pub small_above : (x : Float) → Small x → T (positive x)
small_above x s = above x (two_to 23) s.over s.under

pub bound : (x : Float) → Small x → num x < 2 ^ 23 * den x
bound x s = subst (λ (z : ℕ). z < 2 ^ 23 * den x) (mul-one (num x)) (lt_yes x (two_to 23) (num x) (den x) (2 ^ 23) 1 (den_pos x) (zero-lt-suc 0) (own_value x (small_above x s)) (refl, refl) s.under)

less : (x : Float) → Small x → num x / den x < 2 ^ 23
less x s = (div-lt_iff_lt-mul (den_pos x)).1 (bound x s)

-- ---- what `fits` says of the digits and of the size
pub digits : (f : Format) (s : Bool) (m : ℕ) (e : ℤ) → T (fits f (fin s m e)) → m < 2 ^ prec f
unfolding fits
digits f s zero e F = pow_pos (prec f)
digits f s (suc m) e F =
    let a : Bool = eqb (suc m % 2) 1 in
    let b : Bool = ltb (suc m) (2 ^ prec f) in
    let c : Bool = leb (down e) (2 ^ low f) in
    ltb→lt (suc m) (2 ^ prec f) (and_r a b (and_l (a && b) c (and_l (a && b && c) (ltb (suc m * up e) (2 ^ suc (emax f) * down e)) F)))

pub extent : (f : Format) (s : Bool) (m : ℕ) (e : ℤ) → T (fits f (fin s m e)) → m * up e < 2 ^ suc (emax f) * down e
unfolding fits
extent f s zero e F = subst (λ (z : ℕ). z < 2 ^ suc (emax f) * down e) (sym (zero-mul (up e))) (mul-pos (pow_pos (suc (emax f))) (down_pos e))
extent f s (suc m) e F =
    let a : Bool = eqb (suc m % 2) 1 in
    let b : Bool = ltb (suc m) (2 ^ prec f) in
    let c : Bool = leb (down e) (2 ^ low f) in
    ltb→lt (suc m * up e) (2 ^ suc (emax f) * down e) (and_r (a && b && c) (ltb (suc m * up e) (2 ^ suc (emax f) * down e)) F)

-- a whole number that the format holds is what `round` makes of it
pub whole_is : (f : Format) (s : Bool) (m k : ℕ) → T (fits f (fin s m (pos k))) → fin s m (pos k) ≡ round f s (m * 2 ^ k) 1
whole_is f s m k F =
    let n = m * 2 ^ k in
    let b : n < 2 ^ suc (emax f) = subst (λ (z : ℕ). n < z) (mul-one (2 ^ suc (emax f))) (extent f s m (pos k) F) in
    let e : m * 2 ^ (k + low f) ≡ n * 2 ^ low f = ap (λ (z : ℕ). m * z) (pow-add 2 k (low f)) ∙ sym (mul_assoc m (2 ^ k) (2 ^ low f)) in
    let v : HasValue (round f s n 1) s n 1 =
    round_exact f s n 1 m (k + low f) (zero-lt-suc 0) (digits f s m (pos k) F)
    (subst (λ (z : ℕ). z < 2 ^ (low f + suc (emax f))) (sym e) (subst (λ (z : ℕ). n * 2 ^ low f < 2 ^ z) (add_comm (suc (emax f)) (low f)) (shl_lt (suc (emax f)) (low f) b)))
    (sym e ∙ sym (mul-one (m * 2 ^ (k + low f)))) in
    whole_unique f (fin s m (pos k)) (round f s n 1) s n F (round-fits f s n 1) (refl, refl) v

too_many : (p k : ℕ) → p ≤ p - 1 + suc k
too_many p k = omega arith

-- a value of magnitude 2 ^ (prec - 1) at least has no fraction
pub no_fraction : (f : Format) (s : Bool) (m k : ℕ) → T (fits f (fin s m (negsuc k))) → 2 ^ (prec f - 1) * 2 ^ suc k ≤ m → ⊥
no_fraction f s m k F h = lt_irrefl m (lt_of_lt_of_le (digits f s m (negsuc k) F) (le_trans (pow_mono (too_many (prec f) k)) (le_trans (le_of_eq (pow-add 2 (prec f - 1) (suc k))) h)))

-- ---- the rule g, whole
module _ (f : Format) (g : Bool → ℕ → ℕ → ℕ) where
  pub plain : (x : Float) (n : ℕ) → T (positive x) → n ≡ g false (num x) (den x) → of_int f (pos n) ≡ whole_by f g x
  unfolding whole_by
  plain nan n p e = absurd p
  plain (inf s) n p e = absurd p
  plain (fin true m e) n p k = absurd p
  plain (fin false m e) n p k = of_int_is f n ∙ ap (λ (z : ℕ). round f false z 1) k

  pub turned : (x : Float) (n : ℕ) → T (positive (neg x)) → n ≡ g true (num (neg x)) (den (neg x)) → neg (of_int f (pos n)) ≡ whole_by f g x
  unfolding whole_by neg
  turned nan n p e = absurd p
  turned (inf s) n p e = absurd p
  turned (fin true m e) n p k = ap neg (of_int_is f n) ∙ neg_round f n 1 ∙ ap (λ (z : ℕ). round f true z 1) k
  turned (fin false m e) n p k = absurd p

  pub large : (s : Bool) (m : ℕ) (e : ℤ) → ((n : ℕ) → g s n 1 ≡ n) → T (fits f (fin s m e)) → 2 ^ (prec f - 1) * down e ≤ m * up e → fin s m e ≡ whole_by f g (fin s m e)
  unfolding whole_by
  large s m (pos k) id F h = whole_is f s m k F ∙ ap (λ (z : ℕ). round f s z 1) (sym (id (m * 2 ^ k)))
  large s m (negsuc k) id F h = absurd (no_fraction f s m k F (le_trans h (le_of_eq (mul-one m))))

  pub null_kept : (s : Bool) (e : ℤ) → ((d : ℕ) → 0 < d → g s 0 d ≡ 0) → T (fits f (fin s 0 e)) → fin s 0 e ≡ whole_by f g (fin s 0 e)
  unfolding whole_by
  null_kept s e nil F =
      whole_unique f (fin s 0 e) (round f s 0 1) s 0 F (round-fits f s 0 1) (refl, ap (λ (z : ℕ). z * 1) (zero-mul (up e)) ∙ sym (zero-mul (down e))) (round_whole f s 0 zero-le)
      ∙ ap (λ (z : ℕ). round f s z 1) (sym (ap (λ (z : ℕ). g s z (down e)) (zero-mul (up e)) ∙ nil (down e) (down_pos e)))

-- ---- the branches that hand x back, at f32
module _ (g : Bool → ℕ → ℕ → ℕ) (id : (s : Bool) (n : ℕ) → g s n 1 ≡ n) (nil : (s : Bool) (d : ℕ) → 0 < d → g s 0 d ≡ 0) where
  sized : (s : Bool) (m : ℕ) (e : ℤ) → T (not (ltb (m * up e * 1) (1 * 2 ^ 23 * down e))) → 2 ^ 23 * down e ≤ m * up e
  sized s m e h = subst (λ (z : ℕ). 2 ^ 23 * down e ≤ z) (mul-one (m * up e)) (nltb→le (m * up e * 1) (1 * 2 ^ 23 * down e) h)

  pub high_plus : (x : Float) → T (fits binary32 x) → T (lt null x) → T (not (lt x (two_to 23))) → x ≡ whole_by binary32 g x
  unfolding lt whole_by
  high_plus nan F a b = absurd a
  high_plus (inf s) F a b = refl
  high_plus (fin true m e) F a b = absurd a
  high_plus (fin false m e) F a b = large binary32 g false m e (id false) F (sized false m e b)

  pub high_minus : (x : Float) → T (fits binary32 x) → T (lt x null) → T (not (lt (neg x) (two_to 23))) → x ≡ whole_by binary32 g x
  unfolding lt whole_by neg
  high_minus nan F a b = absurd a
  high_minus (inf s) F a b = refl
  high_minus (fin false m e) F a b = absurd (not_under m e a)
  high_minus (fin true m e) F a b = large binary32 g true m e (id true) F (sized true m e b)

  pub rest : (x : Float) → T (fits binary32 x) → T (not (lt null x)) → T (not (lt x null)) → x ≡ whole_by binary32 g x
  unfolding lt whole_by
  rest nan F a b = refl
  rest (inf s) F a b = refl
  rest (fin s zero e) F a b = null_kept binary32 g s e (nil s) F
  rest (fin false (suc m) e) F a b = absurd (T_not (lt null (fin false (suc m) e)) a (over m e))
  rest (fin true (suc m) e) F a b = absurd (T_not (lt (fin true (suc m) e) null) b (under m e))

-- the three rules at a whole number, and at 0
pub raised_id : (n : ℕ) → raised n 1 ≡ n
raised_id n = div-one (n + 0) ∙ add-zero n

pub half_id : (n : ℕ) → half n 1 ≡ n
half_id n = go n
  where
    go : (k : ℕ) → (2 * k + 1) / 2 ≡ k
    go k = omega arith

pub cut_nil : (d : ℕ) → 0 < d → cut 0 d ≡ 0
cut_nil d h = div-eq_of_lt h

pub raised_nil : (d : ℕ) → 0 < d → raised 0 d ≡ 0
raised_nil d h = div-eq_of_lt (go h)
  where
    go : 0 < d → 0 + (d - 1) < d
    go k = omega arith

pub half_nil : (d : ℕ) → 0 < d → half 0 d ≡ 0
half_nil d h = div-eq_of_lt (go h)
  where
    go : 0 < d → 2 * 0 + d < 2 * d
    go k = omega arith

pub floor_id : (s : Bool) (n : ℕ) → downward s n 1 ≡ n
floor_id true n = raised_id n
floor_id false n = div-one n

pub floor_nil : (s : Bool) (d : ℕ) → 0 < d → downward s 0 d ≡ 0
floor_nil true = raised_nil
floor_nil false = cut_nil

pub ceil_id : (s : Bool) (n : ℕ) → upward s n 1 ≡ n
ceil_id true n = div-one n
ceil_id false n = raised_id n

pub ceil_nil : (s : Bool) (d : ℕ) → 0 < d → upward s 0 d ≡ 0
ceil_nil true = cut_nil
ceil_nil false = raised_nil

pub round_id : (s : Bool) (n : ℕ) → away s n 1 ≡ n
round_id s n = half_id n

pub round_nil : (s : Bool) (d : ℕ) → 0 < d → away s 0 d ≡ 0
round_nil s = half_nil

-- Assumes nothing.
