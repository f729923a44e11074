-- Adding 2 ^ 23 and taking it away makes a smaller value whole: the sum keeps no fraction, and the difference is exact. A comparison then says whether a step is due.
use mathlib.Core.Path.{◌≡◌, refl, sym, ap, ◌∙◌, subst}
use mathlib.Core.Bool.{Bool, true, false, not, true≢false}
use Prim.Native.Nat.{ℕ, suc, ◌+◌, ◌-◌, ◌*◌, ◌/◌, ◌%◌, ◌^◌, ◌≤◌, ◌<◌, compare, Ordering}
use native.Mathlib.Nat.{le_trans, le_antisymm, lt_of_not-le, lt_irrefl, le_of_lt, le_of_eq, lt_of_lt_of_le, lt_of_le_of_lt, mul-one, mul_comm, mul_assoc, mul_right_comm, mul-mul-mul_comm, add-mul, add_comm, mul-lt-mul_of_pos_right, mul-sub, mul-pos, mul-le-mul_right, mul-le-mul_left, div-add-mod', div-mul-le_self, div-lt_iff_lt-mul, le-div_iff_mul-le, add-mul-div_right, add-mul-mod_self_right, zero-lt-suc}
use native.Mathlib.Omega.{arith}
use lib.IntN.{pos}
use lib.Dec.{T, ltb, leb, leb→le, nleb→lt, lit≤}
use lib.Arith.{le→nltb}
use lib.Pow.{pow-add, pow_pos}
use lib.Ieee.{Float, nan, inf, fin, Format, binary32, up, down, size, nearest, units, round, sum, add, sub, neg, of_int, lt}
use lib.Ieee.Fits.{down_pos, round_is, nearest-le}
use lib.Ieee.Bits.{cond_no}
use lib.Ieee.Exact.{HasValue}
use lib.Ieee.Nearest.{closest, closest_same, nearest-ge}
use lib.Ieee.Scale.{round_same}
use lib.Ieee.Back.{round_whole}
use lib.Ieee.Positive.{num, den, den_pos, own_value}
use Rattle.wholes.specs.Small.{Small}
use Rattle.wholes.specs.Whole.{cut, raised}
use Rattle.numbers.proofs.Zero.{two_to}
use Rattle.numbers.proofs.Order.{lt_yes, lt_no}
use Rattle.numbers.proofs.Units.{of_int_is, exact}
use Rattle.numbers.proofs.Near.{size_is}
use Rattle.numbers.proofs.Shift.{below_half}
use Rattle.wholes.proofs.Wholes.{small_above, bound, raised_up, raised_same}

-- ---- sums and differences of values that are not negative
part : (u g c d a e : ℕ) → u * c ≡ a * e → u * g * (c * d) ≡ a * d * (e * g)
part u g c d a e h = mul-mul-mul_comm u g c d ∙ ap (λ (z : ℕ). z * (g * d)) h ∙ ap (λ (z : ℕ). a * e * z) (mul_comm g d) ∙ mul-mul-mul_comm a e d g

sum_at : (f : Format) (x y : Float) (a c b d : ℕ) → 0 < c → 0 < d → HasValue x false a c → HasValue y false b d → add f x y ≡ round f false (a * d + b * c) (c * d)
unfolding add sum
sum_at f nan y a c b d C D h k = absurd h
sum_at f (inf s) y a c b d C D h k = absurd h
sum_at f (fin true m e) y a c b d C D h k = absurd (true≢false h.0)
sum_at f (fin false m e) nan a c b d C D h k = absurd k
sum_at f (fin false m e) (inf s) a c b d C D h k = absurd k
sum_at f (fin false m e) (fin true n g) a c b d C D h k = absurd (true≢false k.0)
sum_at f (fin false m e) (fin false n g) a c b d C D h k =
    let E = down e in
    let G = down g in
    let w : n * up g * E * (c * d) ≡ b * c * (E * G) = ap (λ (z : ℕ). n * up g * E * z) (mul_comm c d) ∙ part (n * up g) E d c b G k.1 ∙ ap (λ (z : ℕ). b * c * z) (mul_comm G E) in
    round_same f false (m * up e * G + n * up g * E) (E * G) (a * d + b * c) (c * d) (mul-pos (down_pos e) (down_pos g)) (mul-pos C D)
    (add-mul (m * up e * G) (n * up g * E) (c * d) ∙ ap (λ (z : ℕ). z + n * up g * E * (c * d)) (part (m * up e) G c d a E h.1) ∙ ap (λ (z : ℕ). a * d * (E * G) + z) w ∙ sym (add-mul (a * d) (b * c) (E * G)))

-- of whole numbers
difference_at : (f : Format) (x y : Float) (a b : ℕ) → HasValue x false a 1 → HasValue y false b 1 → b ≤ a → sub f x y ≡ of_int f (pos (a - b))
unfolding sub add sum neg
difference_at f nan y a b h k l = absurd h
difference_at f (inf s) y a b h k l = absurd h
difference_at f (fin true m e) y a b h k l = absurd (true≢false h.0)
difference_at f (fin false m e) nan a b h k l = absurd k
difference_at f (fin false m e) (inf s) a b h k l = absurd k
difference_at f (fin false m e) (fin true n g) a b h k l = absurd (true≢false k.0)
difference_at f (fin false m e) (fin false n g) a b h k l =
    let E = down e in
    let G = down g in
    let p : m * up e * G ≡ E * G * a = ap (λ (z : ℕ). z * G) (sym (mul-one (m * up e)) ∙ h.1) ∙ mul_assoc a E G ∙ mul_comm a (E * G) in
    let q : n * up g * E ≡ E * G * b = ap (λ (z : ℕ). z * E) (sym (mul-one (n * up g)) ∙ k.1) ∙ mul_assoc b G E ∙ mul_comm b (G * E) ∙ ap (λ (z : ℕ). z * b) (mul_comm G E) in
    cond_no (ltb (m * up e * G) (n * up g * E)) _ _ (le→nltb (m * up e * G) (n * up g * E) (le_trans (le_of_eq q) (le_trans (mul-le-mul_left (E * G) l) (le_of_eq (sym p)))))
    ∙ round_same f false (m * up e * G - n * up g * E) (E * G) (a - b) 1 (mul-pos (down_pos e) (down_pos g)) (zero-lt-suc 0)
    (mul-one (m * up e * G - n * up g * E) ∙ ap (λ (z : ℕ). z - n * up g * E) p ∙ ap (λ (z : ℕ). E * G * a - z) q ∙ sym (mul-sub (E * G) a b) ∙ mul_comm (E * G) (a - b))
    ∙ sym (of_int_is f (a - b))

-- ---- a whole number as a float
whole_value : (n : ℕ) → n ≤ 2 ^ 24 → HasValue (of_int binary32 (pos n)) false n 1
whole_value n h = subst (λ (z : Float). HasValue z false n 1) (sym (of_int_is binary32 n)) (round_whole binary32 false n h)

pub more : (n : ℕ) → n ≤ 2 ^ 23 → add binary32 (of_int binary32 (pos n)) (two_to 0) ≡ of_int binary32 (pos (n + 1))
more n h = sum_at binary32 (of_int binary32 (pos n)) (two_to 0) n 1 1 1 (zero-lt-suc 0) (zero-lt-suc 0) (whole_value n (le_trans h (lit≤ tt))) (refl, refl) ∙ ap (λ (z : ℕ). round binary32 false (z + 1) 1) (mul-one n) ∙ sym (of_int_is binary32 (n + 1))

pub less : (n : ℕ) → 0 < n → n ≤ 2 ^ 23 → sub binary32 (of_int binary32 (pos n)) (two_to 0) ≡ of_int binary32 (pos (n - 1))
less n p h = difference_at binary32 (of_int binary32 (pos n)) (two_to 0) n 1 (whole_value n (le_trans h (lit≤ tt))) (refl, refl) p

-- ---- n / d and 2 ^ 23 more
even_step : (q : ℕ) (o : Ordering) → nearest (8388608 + q) o ≡ 8388608 + nearest q o
even_step q Ordering.lt = refl
even_step q Ordering.eq = go q
  where
    go : (q : ℕ) → 8388608 + q + (8388608 + q) % 2 ≡ 8388608 + (q + q % 2)
    go q = omega arith
even_step q Ordering.gt = go q
  where
    go : (q : ℕ) → suc (8388608 + q) ≡ 8388608 + suc q
    go q = omega arith

shifted_closest : (n d : ℕ) → 0 < d → closest (n + 8388608 * d) d ≡ 8388608 + closest n d
shifted_closest n d D =
    ap (λ (z : ℕ). nearest z (compare ((n + 8388608 * d) % d * 2) d)) (add-mul-div_right n 8388608 D ∙ add_comm (n / d) 8388608)
    ∙ ap (λ (z : ℕ). nearest (8388608 + n / d) (compare (z * 2) d)) (add-mul-mod_self_right n 8388608 d)
    ∙ even_step (n / d) (compare (n % d * 2) d)

-- ---- the nearest whole number is the whole part or the next
module _ (n d : ℕ) (D : 0 < d) where
  is_whole : (k : ℕ) → n / d ≤ k → k * d ≤ n → k ≡ n / d
  is_whole k lo h = le_antisymm ((le-div_iff_mul-le D).1 h) lo

  is_next : (k : ℕ) → n / d ≤ k → k ≤ suc (n / d) → n < k * d → k ≡ n / d + 1
  is_next k lo hi h = go k (n / d) (lt_of_not-le (λ (g : k ≤ n / d). lt_irrefl n (lt_of_lt_of_le h (le_trans (mul-le-mul_right d g) (div-mul-le_self n d))))) hi
    where
      go : (k q : ℕ) → q < k → k ≤ suc q → k ≡ q + 1
      go k q a b = omega arith

  is_raised : n ≤ closest n d * d → closest n d ≡ raised n d
  is_raised h = go (leb n (n / d * d)) (leb→le n (n / d * d)) (nleb→lt n (n / d * d))
    where
      rest : n ≤ n / d * d → n % d ≡ 0
      rest l = let e = div-add-mod' n d in omega arith

      up : n / d * d < n → closest n d ≡ n / d + 1
      up l = go2 (closest n d) (n / d) (lt_of_not-le (λ (g : closest n d ≤ n / d). lt_irrefl n (lt_of_le_of_lt h (lt_of_le_of_lt (mul-le-mul_right d g) l)))) (nearest-le (n / d) (compare (n % d * 2) d))
        where
          go2 : (k q : ℕ) → q < k → k ≤ suc q → k ≡ q + 1
          go2 k q a b = omega arith

      half : n % d ≡ 0 → n % d < d - n % d
      half e = subst (λ (z : ℕ). z < d - z) (sym e) (go3 d D)
        where
          go3 : (d : ℕ) → 0 < d → 0 < d - 0
          go3 d h = omega arith

      go : (b : Bool) → (T b → n ≤ n / d * d) → (T (not b) → n / d * d < n) → closest n d ≡ raised n d
      go true f g = sym (below_half n d (half (rest (f tt)))) ∙ sym (raised_same n d D (f tt))
      go false f g = up (g tt) ∙ sym (raised_up n d D (g tt))

module _ (a : Float) (s : Small a) where
  abbrev k : ℕ
  k = closest (num a) (den a)

  k_ge : num a / den a ≤ closest (num a) (den a)
  k_ge = nearest-ge (num a / den a) (compare (num a % den a * 2) (den a))

  k_next : closest (num a) (den a) ≤ suc (num a / den a)
  k_next = nearest-le (num a / den a) (compare (num a % den a * 2) (den a))

  k_le : closest (num a) (den a) ≤ 2 ^ 23
  k_le = le_trans k_next ((div-lt_iff_lt-mul (den_pos a)).1 (bound a s))

  abbrev N : ℕ
  N = num a + 8388608 * den a

  placed : size (N * 2 ^ 149 / den a) ≡ suc 172
  placed = size_is (N * 2 ^ 149 / den a) 172
      ((le-div_iff_mul-le (den_pos a)).1 (le_trans (le_of_eq (ap (λ (z : ℕ). z * den a) (pow-add 2 23 149) ∙ mul_right_comm (2 ^ 23) (2 ^ 149) (den a))) (mul-le-mul_right (2 ^ 149) (go (num a) (den a)))))
      ((div-lt_iff_lt-mul (den_pos a)).1 (lt_of_lt_of_le (mul-lt-mul_of_pos_right (go2 (num a) (den a) (bound a s)) (pow_pos 149)) (le_of_eq (mul_right_comm (2 ^ 24) (den a) (2 ^ 149) ∙ ap (λ (z : ℕ). z * den a) (sym (pow-add 2 24 149))))))
    where
      go : (n d : ℕ) → 8388608 * d ≤ n + 8388608 * d
      go n d = omega arith

      go2 : (n d : ℕ) → n < 8388608 * d → n + 8388608 * d < 16777216 * d
      go2 n d h = omega arith

  risen : add binary32 a (two_to 23) ≡ of_int binary32 (pos (8388608 + closest (num a) (den a)))
  risen =
      sum_at binary32 a (two_to 23) (num a) (den a) 8388608 1 (den_pos a) (zero-lt-suc 0) (own_value a (small_above a s)) (refl, refl)
      ∙ ap (λ (z : ℕ). round binary32 false (z + 8388608 * den a) (den a * 1)) (mul-one (num a))
      ∙ ap (λ (z : ℕ). round binary32 false N z) (mul-one (den a))
      ∙ round_is binary32 false N (den a)
      ∙ ap (λ (z : ℕ). units binary32 false (closest (N * 2 ^ 149) (den a * 2 ^ (z - 24))) (z - 24)) placed
      ∙ ap (λ (z : ℕ). units binary32 false z 149) (closest_same (N * 2 ^ 149) (den a * 2 ^ 149) N (den a) (mul-pos (den_pos a) (pow_pos 149)) (den_pos a) (mul_assoc N (2 ^ 149) (den a) ∙ ap (λ (z : ℕ). N * z) (mul_comm (2 ^ 149) (den a))) ∙ shifted_closest (num a) (den a) (den_pos a))
      ∙ sym (exact binary32 (8388608 + k) 149 (go k k_le))
      ∙ round_same binary32 false ((8388608 + k) * 2 ^ 149) (2 ^ 149) (8388608 + k) 1 (pow_pos 149) (zero-lt-suc 0) (mul-one ((8388608 + k) * 2 ^ 149))
      ∙ sym (of_int_is binary32 (8388608 + k))
    where
      go : (k : ℕ) → k ≤ 8388608 → 8388608 + k ≤ 16777216
      go k h = omega arith

  pub near_whole : sub binary32 (add binary32 a (two_to 23)) (two_to 23) ≡ of_int binary32 (pos (closest (num a) (den a)))
  near_whole =
      ap (λ (z : Float). sub binary32 z (two_to 23)) risen
      ∙ difference_at binary32 (of_int binary32 (pos (8388608 + k))) (two_to 23) (8388608 + k) 8388608 (whole_value (8388608 + k) (go k k_le)) (refl, refl) (go2 k)
      ∙ ap (λ (z : ℕ). of_int binary32 (pos z)) (go3 k)
    where
      go : (k : ℕ) → k ≤ 8388608 → 8388608 + k ≤ 16777216
      go k h = omega arith

      go2 : (k : ℕ) → 8388608 ≤ 8388608 + k
      go2 k = omega arith

      go3 : (k : ℕ) → 8388608 + k - 8388608 ≡ k
      go3 k = omega arith

  -- ---- the step that is due
  whole_k : HasValue (of_int binary32 (pos (closest (num a) (den a)))) false (closest (num a) (den a)) 1
  whole_k = whole_value k (le_trans k_le (lit≤ tt))

  under : T (lt a (of_int binary32 (pos k))) → num a < k * den a
  under h = subst (λ (z : ℕ). z < k * den a) (mul-one (num a)) (lt_yes a (of_int binary32 (pos k)) (num a) (den a) k 1 (den_pos a) (zero-lt-suc 0) (own_value a (small_above a s)) whole_k h)

  not_under : T (not (lt a (of_int binary32 (pos k)))) → k * den a ≤ num a
  not_under h = subst (λ (z : ℕ). k * den a ≤ z) (mul-one (num a)) (lt_no a (of_int binary32 (pos k)) (num a) (den a) k 1 (own_value a (small_above a s)) whole_k h)

  over : T (lt (of_int binary32 (pos k)) a) → k * den a < num a
  over h = subst (λ (z : ℕ). k * den a < z) (mul-one (num a)) (lt_yes (of_int binary32 (pos k)) a k 1 (num a) (den a) (zero-lt-suc 0) (den_pos a) whole_k (own_value a (small_above a s)) h)

  not_over : T (not (lt (of_int binary32 (pos k)) a)) → num a ≤ k * den a
  not_over h = subst (λ (z : ℕ). z ≤ k * den a) (mul-one (num a)) (lt_no (of_int binary32 (pos k)) a k 1 (num a) (den a) whole_k (own_value a (small_above a s)) h)

  pub stepped_down : T (lt a (of_int binary32 (pos k))) → sub binary32 (of_int binary32 (pos k)) (two_to 0) ≡ of_int binary32 (pos (cut (num a) (den a)))
  stepped_down h =
      let e : k ≡ num a / den a + 1 = is_next (num a) (den a) (den_pos a) k k_ge k_next (under h) in
      less k (go k (num a / den a) e) k_le ∙ ap (λ (z : ℕ). of_int binary32 (pos z)) (go2 k (num a / den a) e)
    where
      go : (k q : ℕ) → k ≡ q + 1 → 0 < k
      go k q e = omega arith

      go2 : (k q : ℕ) → k ≡ q + 1 → k - 1 ≡ q
      go2 k q e = omega arith

  pub stayed_down : T (not (lt a (of_int binary32 (pos k)))) → of_int binary32 (pos k) ≡ of_int binary32 (pos (cut (num a) (den a)))
  stayed_down h = ap (λ (z : ℕ). of_int binary32 (pos z)) (is_whole (num a) (den a) (den_pos a) k k_ge (not_under h))

  pub stepped_up : T (lt (of_int binary32 (pos k)) a) → add binary32 (of_int binary32 (pos k)) (two_to 0) ≡ of_int binary32 (pos (raised (num a) (den a)))
  stepped_up h =
      let e : k ≡ num a / den a = is_whole (num a) (den a) (den_pos a) k k_ge (le_of_lt (over h)) in
      more k k_le ∙ ap (λ (z : ℕ). of_int binary32 (pos z)) (ap (λ (z : ℕ). z + 1) e ∙ sym (raised_up (num a) (den a) (den_pos a) (subst (λ (z : ℕ). z * den a < num a) e (over h))))

  pub stayed_up : T (not (lt (of_int binary32 (pos k)) a)) → of_int binary32 (pos k) ≡ of_int binary32 (pos (raised (num a) (den a)))
  stayed_up h = ap (λ (z : ℕ). of_int binary32 (pos z)) (is_raised (num a) (den a) (den_pos a) (not_over h))

-- Assumes nothing.
