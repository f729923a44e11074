-- The closest whole number, a tie to the even one, and R: the test against a half more finds the tie that went down.
use mathlib.Core.Path.{◌≡◌, refl, sym, ap, ◌∙◌, subst}
use mathlib.Core.Logic.{inl, inr}
use mathlib.Core.Bool.{Bool, true, false, not, cond, true≢false}
use Prim.Native.Nat.{ℕ, suc, ◌+◌, ◌*◌, ◌/◌, ◌%◌, ◌^◌, ◌≤◌, ◌<◌, compare, Ordering}
use native.Mathlib.Nat.{le_trans, lt_of_lt_of_le, one-mul, mul_assoc, mul_left_comm, add-mul, add-zero, mul-le-mul_right, div-lt_iff_lt-mul, div-add-mod', mod-lt, div-eq_of_lt-le, eq-or-lt_of_le, mul-pos, zero-lt-suc}
use native.Mathlib.Omega.{arith}
use lib.IntN.{pos, negsuc}
use lib.Dec.{T, T_not, lit≤}
use lib.Pow.{pow_mono, shl_lt}
use lib.Ieee.{Float, nan, inf, fin, binary32, up, down, nearest, round, sum, add, lt, of_int, in_unsigned, to_unsigned}
use lib.Ieee.Fits.{down_pos, nearest-le}
use lib.Ieee.Exact.{HasValue, round_exact}
use lib.Ieee.Nearest.{closest, nearest-ge}
use lib.Ieee.Scale.{round_same}
use lib.Ieee.Back.{round_whole, unsigned_back}
use lib.Ieee.Positive.{num, den, den_pos, own_value}
use Rattle.wholes.specs.Whole.{half}
use Rattle.wholes.specs.Small.{Small, Made}
use Rattle.numbers.proofs.Zero.{yes, no, two_to}
use Rattle.numbers.proofs.Order.{Cmp, cmp, lt_yes, lt_no}
use Rattle.numbers.proofs.Units.{of_int_is, castable}
use Rattle.wholes.proofs.Wholes.{small_above, bound}

-- ---- the closest whole number to n / d is at most a half away

around : (n d q r : ℕ) (o : Ordering) → Cmp o (r * 2) d → q * d + r ≡ n → r < d → (2 * (nearest q o * d) ≤ 2 * n + d) × (2 * n ≤ 2 * (nearest q o * d) + d)
around n d q r Ordering.lt c e l = (omega arith, omega arith)
around n d q r Ordering.eq c e l = go (q * d) (nearest q Ordering.eq * d) (mul-le-mul_right d (nearest-ge q Ordering.eq)) (le_trans (mul-le-mul_right d (nearest-le q Ordering.eq)) (le_of_next q d)) c e
  where
    le_of_next : (q d : ℕ) → suc q * d ≤ q * d + d
    le_of_next q d = omega arith

    go : (p k : ℕ) → p ≤ k → k ≤ p + d → r * 2 ≡ d → p + r ≡ n → (2 * k ≤ 2 * n + d) × (2 * n ≤ 2 * k + d)
    go p k a b t u = (omega arith, omega arith)
around n d q r Ordering.gt c e l = (omega arith, omega arith)

within : (n d : ℕ) → 0 < d → (2 * (closest n d * d) ≤ 2 * n + d) × (2 * n ≤ 2 * (closest n d * d) + d)
within n d D = around n d (n / d) (n % d) (compare (n % d * 2) d) (cmp (n % d * 2) d) (div-add-mod' n d) (mod-lt n D)

-- ---- so half-away rounding is that number k, or one more where n / d has reached k and a half

module _ (n d k : ℕ) (lo : 2 * (k * d) ≤ 2 * n + d) (hi : 2 * n ≤ 2 * (k * d) + d) (D : 0 < d) where
  times : (c : ℕ) → c * (2 * d) ≡ 2 * (c * d)
  times c = mul_left_comm c 2 d

  next : (c : ℕ) → (c + 1) * (2 * d) ≡ 2 * (c * d) + 2 * d
  next c = times (c + 1) ∙ ap (λ (z : ℕ). 2 * z) (add-mul c 1 d ∙ ap (λ (z : ℕ). c * d + z) (one-mul d)) ∙ go (c * d)
    where
      go : (p : ℕ) → 2 * (p + d) ≡ 2 * p + 2 * d
      go p = omega arith

  middle : (k + k + 1) * d ≡ 2 * (k * d) + d
  middle = add-mul (k + k) 1 d ∙ ap (λ (z : ℕ). z + 1 * d) (add-mul k k d) ∙ go (k * d)
    where
      go : (p : ℕ) → p + p + 1 * d ≡ 2 * p + d
      go p = omega arith

  stays : n * 2 < (k + k + 1) * d → half n d ≡ k
  stays h =
      let a = times k in let b = next k in let m = middle in
      div-eq_of_lt-le (2 * d) (omega arith) (omega arith)

  steps : (k + k + 1) * d ≤ n * 2 → half n d ≡ k + 1
  steps h =
      let a = next k in let b = next (k + 1) in let m = middle in let e : (k + 1) * d ≡ k * d + d = add-mul k 1 d ∙ ap (λ (z : ℕ). k * d + z) (one-mul d) in
      div-eq_of_lt-le (2 * d) (omega arith) (omega arith)

-- ---- a whole number and a half

whole_value : (n : ℕ) → n ≤ 2 ^ 24 → HasValue (of_int binary32 (pos n)) false n 1
whole_value n h = subst (λ (z : Float). HasValue z false n 1) (sym (of_int_is binary32 n)) (round_whole binary32 false n h)

half_more : (x : Float) (k : ℕ) → HasValue x false k 1 → add binary32 x (fin false 1 (negsuc 0)) ≡ round binary32 false (k + k + 1) 2
unfolding add sum
half_more nan k v = absurd v
half_more (inf s) k v = absurd v
half_more (fin true m e) k v = absurd (true≢false v.0)
half_more (fin false m e) k v =
    round_same binary32 false (m * up e * 2 + 1 * 1 * down e) (down e * 2) (k + k + 1) 2 (mul-pos (down_pos e) (zero-lt-suc 1)) (zero-lt-suc 1) (go (m * up e) (down e) v.1)
  where
    go : (u d : ℕ) → u * 1 ≡ k * d → (u * 2 + 1 * 1 * d) * 2 ≡ (k + k + 1) * (d * 2)
    go u d e =
        let a : (k + k + 1) * (d * 2) ≡ (k + k + 1) * d * 2 = sym (mul_assoc (k + k + 1) d 2) in
        let b : (k + k + 1) * d ≡ k * d + k * d + d = add-mul (k + k) 1 d ∙ ap (λ (z : ℕ). z + 1 * d) (add-mul k k d) ∙ ap (λ (z : ℕ). k * d + k * d + z) (one-mul d) in
        omega arith

half_value : (k : ℕ) → k < 8388608 → HasValue (round binary32 false (k + k + 1) 2) false (k + k + 1) 2
half_value k h =
    let n = k + k + 1 in
    let l : n < 2 ^ 24 = go k h in
    round_exact binary32 false n 2 n 148 (zero-lt-suc 1) l (lt_of_lt_of_le (shl_lt 24 148 l) (pow_mono (lit≤ {m = 172} {n = 277} tt))) (sym (mul_assoc n (2 ^ 148) 2))
  where
    go : (k : ℕ) → k < 8388608 → k + k + 1 < 16777216
    go k h = omega arith

-- 2 ^ 23 and a half is 2 ^ 23
top_half : round binary32 false (8388608 + 8388608 + 1) 2 ≡ two_to 23
unfolding round
top_half = refl

-- ---- the code's numbers

module _ (x : Float) (s : Small x) where
  abbrev k : ℕ
  k = closest (num x) (den x)

  most : closest (num x) (den x) ≤ 8388608
  most = le_trans (nearest-le (num x / den x) (compare (num x % den x * 2) (den x))) ((div-lt_iff_lt-mul (den_pos x)).1 (bound x s))

  wide : k ≤ 2 ^ 24
  wide = le_trans most (lit≤ tt)

  -- the closest whole number as a float
  abbrev near : Float
  near = of_int binary32 (pos k)

  pub near_cast : {r : Float} → r ≡ of_int binary32 (pos (closest (num x) (den x))) → T (in_unsigned binary32 32 r) × (to_unsigned 32 r ≡ closest (num x) (den x))
  near_cast {r} e = subst (λ (z : Float). T (in_unsigned binary32 32 z) × (to_unsigned 32 z ≡ k)) (sym e) (unsigned_back binary32 32 k (castable binary32 k wide) (go k most))
    where
      go : (k : ℕ) → k ≤ 8388608 → k < 4294967296
      go k h = omega arith

  abbrev mid : Float
  mid = add binary32 near (fin false 1 (negsuc 0))

  mid_is : mid ≡ round binary32 false (k + k + 1) 2
  mid_is = half_more (of_int binary32 (pos k)) k (whole_value k wide)

  lo : 2 * (k * den x) ≤ 2 * num x + den x
  lo = (within (num x) (den x) (den_pos x)).0

  hi : 2 * num x ≤ 2 * (k * den x) + den x
  hi = (within (num x) (den x) (den_pos x)).1

  below_top : num x * 2 < (8388608 + 8388608 + 1) * den x
  below_top = go (num x) (den x) (bound x s)
    where
      go : (n d : ℕ) → n < 8388608 * d → n * 2 < 16777217 * d
      go n d h = omega arith

  -- what the test says of the numbers
  mid_value : k < 8388608 → HasValue mid false (k + k + 1) 2
  mid_value l = subst (λ (z : Float). HasValue z false (k + k + 1) 2) (sym mid_is) (half_value k l)

  under_mid : T (lt x mid) → num x * 2 < (k + k + 1) * den x
  under_mid h = elim (eq-or-lt_of_le most) [
    | inl e ↦ subst (λ (z : ℕ). num x * 2 < (z + z + 1) * den x) (sym e) below_top
    | inr l ↦ lt_yes x mid (num x) (den x) (k + k + 1) 2 (den_pos x) (zero-lt-suc 1) (own_value x (small_above x s)) (mid_value l) h
  ]

  not_top : T (not (lt x mid)) → k < 8388608
  not_top h = elim (eq-or-lt_of_le most) [
    | inl e ↦ absurd (T_not (lt x (two_to 23)) (subst (λ (z : Float). T (not (lt x z))) (mid_is ∙ ap (λ (z : ℕ). round binary32 false (z + z + 1) 2) e ∙ top_half) h) s.under)
    | inr l ↦ l
  ]

  from_mid : T (not (lt x mid)) → (k + k + 1) * den x ≤ num x * 2
  from_mid h = lt_no x mid (num x) (den x) (k + k + 1) 2 (own_value x (small_above x s)) (mid_value (not_top h)) h

  -- the closest number, and one more at a tie that went down, is the number rounded
  by_test : (t u : ℕ) → t ≡ closest (num x) (den x) → (b : Bool) → lt x mid ≡ b → u ≡ cond b 0 1 → Made half x (t + u)
  by_test t u i true h e =
      let r : half (num x) (den x) ≡ k = stays (num x) (den x) k lo hi (den_pos x) (under_mid (yes h)) in
      record { is = ap (λ (z : ℕ). t + z) e ∙ add-zero t ∙ i ∙ sym r; most = go t u k i e most }
    where
      go : (t u k : ℕ) → t ≡ k → u ≡ 0 → k ≤ 8388608 → t + u ≤ 8388608
      go t u k i e l = omega arith
  by_test t u i false h e =
      let r : half (num x) (den x) ≡ k + 1 = steps (num x) (den x) k lo hi (den_pos x) (from_mid (no h)) in
      record { is = ap (λ (z : ℕ). t + z) e ∙ ap (λ (z : ℕ). z + 1) i ∙ sym r; most = go t u k i e (not_top (no h)) }
    where
      go : (t u k : ℕ) → t ≡ k → u ≡ 1 → k < 8388608 → t + u ≤ 8388608
      go t u k i e l = omega arith

  pub rounded_by : {r : Float} {u : ℕ} → r ≡ of_int binary32 (pos (closest (num x) (den x))) → u ≡ cond (lt x (add binary32 r (fin false 1 (negsuc 0)))) 0 1 → Made half x (to_unsigned 32 r + u)
  rounded_by {r} {u} e d = by_test (to_unsigned 32 r) u (near_cast e).1 (lt x mid) refl (d ∙ ap (λ (z : Float). cond (lt x (add binary32 z (fin false 1 (negsuc 0)))) 0 1) e)

-- Assumes nothing.
