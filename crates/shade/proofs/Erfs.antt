-- The error function of a magnitude is never below zero, so one comparison gives it its sign; where only the sign of a zero differs, the difference of two has the same square.
-- Denominators are 1 or more, so their inverses and squares are 1 or less: rounding keeps the order.
use mathlib.Core.Path.{◌≡◌, refl, sym, ap, ◌∙◌, subst}
use mathlib.Core.Bool.{Bool, true, false, not, ◌&&◌, ◌||◌, cond, true≢false}
use mathlib.Core.Logic.{◌⊎◌, inl, inr}
use Prim.Native.Nat.{ℕ, zero, suc, ◌+◌, ◌-◌, ◌*◌, ◌^◌, ◌<◌, ◌≤◌}
use native.Mathlib.Nat.{zero-lt-suc, mul-pos, le_of_lt, le_of_eq, mul-le-mul, zero-mul, zero-add, add-zero, sub-zero}
use native.Mathlib.Omega.{arith}
use lib.Dec.{T, T_not, ltb, eqb, ltb→lt, eqb→eq}
use lib.IntN.{ℤ, pos}
use lib.Ieee.{Float, nan, inf, fin, Format, binary32, prec, emax, low, unlike, up, down, odd, units, round, neg, sum, add, sub, mul, div, lt, le, fits, of_bits}
use lib.Ieee.Fits.{up_pos, down_pos, and_l, sub-fits}
use lib.Ieee.Order.{round_mono}
use lib.Ieee.Scale.{round_same}
use lib.Ieee.Back.{whole_unique}
use borrow.Author.Tests.{lt-ltb, le-ltb, ne_eqb}
use Rattle.numbers.specs.Arith.{f, 1·0, ◌⊕◌, ◌⊖◌, ◌⊗◌, ◌⊘◌}
use Rattle.numbers.specs.Magnitude.{abs_of, sign_of, with_sign}
use Rattle.approximations.specs.Erf.{erf_core, fast_erff}
use Rattle.numbers.proofs.Zero.{yes, no, null, under, not_under}
use Rattle.numbers.proofs.Signs.{abs_minus}
use Rattle.shade.specs.Alike.{Nulls, Alike}

-- ---- signs
sign_odd : (d : ℕ) (s : Bool) (q k l : ℕ) → sign_of (odd d s q k l) ≡ s
unfolding odd sign_of
sign_odd d s zero k l = refl
sign_odd d s (suc q) k l = refl

sign_cond : (b s : Bool) (x : Float) → sign_of x ≡ s → sign_of (cond b x (inf s)) ≡ s
unfolding sign_of
sign_cond true s x h = h
sign_cond false s x h = refl

sign_units : (g : Format) (s : Bool) (q k : ℕ) → sign_of (units g s q k) ≡ s
unfolding units
sign_units g s q k = sign_cond (ltb (q * 2 ^ k) (2 ^ (low g + suc (emax g)))) s (odd (suc (prec g)) s q k (low g)) (sign_odd (suc (prec g)) s q k (low g))

sign_round : (g : Format) (s : Bool) (a b : ℕ) → sign_of (round g s a b) ≡ s
unfolding round
sign_round g s a b = sign_units g s _ _

sign_product : (b : Bool) → sign_of (cond b nan (inf false)) ≡ false
unfolding sign_of
sign_product true = refl
sign_product false = refl

plus_mul : (x y : Float) → sign_of x ≡ false → sign_of y ≡ false → sign_of (x ⊗ y) ≡ false
unfolding mul sign_of
plus_mul nan y p q = refl
plus_mul (inf true) y p q = absurd (true≢false p)
plus_mul (inf false) nan p q = refl
plus_mul (inf false) (inf true) p q = absurd (true≢false q)
plus_mul (inf false) (inf false) p q = refl
plus_mul (inf false) (fin true n d) p q = absurd (true≢false q)
plus_mul (inf false) (fin false n d) p q = sign_product (eqb n 0)
plus_mul (fin true m e) y p q = absurd (true≢false p)
plus_mul (fin false m e) nan p q = refl
plus_mul (fin false m e) (inf true) p q = absurd (true≢false q)
plus_mul (fin false m e) (inf false) p q = sign_product (eqb m 0)
plus_mul (fin false m e) (fin true n d) p q = absurd (true≢false q)
plus_mul (fin false m e) (fin false n d) p q = sign_round binary32 false (m * up e * (n * up d)) (down e * down d)

plus_add : (x y : Float) → sign_of x ≡ false → sign_of y ≡ false → sign_of (x ⊕ y) ≡ false
unfolding add sign_of
plus_add nan y p q = refl
plus_add (inf true) y p q = absurd (true≢false p)
plus_add (inf false) nan p q = refl
plus_add (inf false) (inf true) p q = absurd (true≢false q)
plus_add (inf false) (inf false) p q = refl
plus_add (inf false) (fin t n d) p q = refl
plus_add (fin true m e) y p q = absurd (true≢false p)
plus_add (fin false m e) nan p q = refl
plus_add (fin false m e) (inf t) p q = q
plus_add (fin false m e) (fin true n d) p q = absurd (true≢false q)
plus_add (fin false m e) (fin false n d) p q = sign_round binary32 false (m * up e * down d + n * up d * down e) (down e * down d)

-- ---- beside 1
-- 1 or more, and from 0 through 1; a NaN passes
abbrev Big : Float → Type 0
Big nan = T true
Big (inf s) = s ≡ false
Big (fin s m e) = (s ≡ false) × (down e ≤ m * up e)

abbrev Small : Float → Type 0
Small nan = T true
Small (inf s) = T false
Small (fin s m e) = (s ≡ false) × (m * up e ≤ down e)

or_split : (a b : Bool) → T (a || b) → T a ⊎ T b
or_split true b t = inl tt
or_split false b t = inr t

lt_or_eq : (a b : ℕ) → T (ltb a b || (eqb a b && true)) → a ≤ b
lt_or_eq a b t = elim (or_split (ltb a b) (eqb a b && true) t) [ inl u ↦ le_of_lt (ltb→lt a b u) | inr u ↦ le_of_eq (eqb→eq a b (and_l (eqb a b) true u)) ]

big_of : (y : Float) → sign_of y ≡ false → T (le 1·0 y) → Big y
unfolding le sign_of of_bits
big_of nan p h = absurd h
big_of (inf s) p h = p
big_of (fin true m e) p h = absurd (true≢false p)
big_of (fin false m e) p h = (refl, go (m * up e) (down e) (lt_or_eq (1 * up (pos 0) * down e) (m * up e * down (pos 0)) h))
  where
    go : (n d : ℕ) → 1 * 1 * d ≤ n * 1 → d ≤ n
    go n d l = omega arith

small_of : (y : Float) → sign_of y ≡ false → T (le y 1·0) → Small y
unfolding le sign_of of_bits
small_of nan p h = absurd h
small_of (inf true) p h = absurd (true≢false p)
small_of (inf false) p h = absurd h
small_of (fin true m e) p h = absurd (true≢false p)
small_of (fin false m e) p h = (refl, go (m * up e) (down e) (lt_or_eq (m * up e * down (pos 0)) (1 * up (pos 0) * down e) h))
  where
    go : (n d : ℕ) → n * 1 ≤ 1 * 1 * d → n ≤ d
    go n d l = omega arith

one_is : round binary32 false 1 1 ≡ 1·0
unfolding round of_bits
one_is = refl

big_round : (a b : ℕ) → 0 < b → b ≤ a → Big (round binary32 false a b)
big_round a b B h = big_of (round binary32 false a b) (sign_round binary32 false a b) (subst (λ (z : Float). T (le z (round binary32 false a b))) one_is (round_mono binary32 1 1 a b (zero-lt-suc 0) B (omega arith)))

small_round : (a b : ℕ) → 0 < b → a ≤ b → Small (round binary32 false a b)
small_round a b B h = small_of (round binary32 false a b) (sign_round binary32 false a b) (subst (λ (z : Float). T (le (round binary32 false a b) z)) one_is (round_mono binary32 a b 1 1 B (zero-lt-suc 0) (omega arith)))

big_sum : (t : Float) → sign_of t ≡ false → Big (t ⊕ 1·0)
unfolding add sign_of of_bits
big_sum nan p = tt
big_sum (inf s) p = p
big_sum (fin true m e) p = absurd (true≢false p)
big_sum (fin false m e) p = big_round (m * up e * 1 + 1 * 1 * down e) (down e * 1) (mul-pos (down_pos e) (zero-lt-suc 0)) (omega arith)

big_square : (y : Float) → Big y → Big (y ⊗ y)
unfolding mul
big_square nan h = tt
big_square (inf true) h = absurd (true≢false h)
big_square (inf false) h = refl
big_square (fin true m e) h = absurd (true≢false h.0)
big_square (fin false m e) h = big_round (m * up e * (m * up e)) (down e * down e) (mul-pos (down_pos e) (down_pos e)) (mul-le-mul h.1 h.1)

small_square : (y : Float) → Small y → Small (y ⊗ y)
unfolding mul
small_square nan h = tt
small_square (inf s) h = absurd h
small_square (fin true m e) h = absurd (true≢false h.0)
small_square (fin false m e) h = small_round (m * up e * (m * up e)) (down e * down e) (mul-pos (down_pos e) (down_pos e)) (mul-le-mul h.1 h.1)

small_inverse : (y : Float) → Big y → Small (1·0 ⊘ y)
unfolding div of_bits
small_inverse nan h = tt
small_inverse (inf true) h = absurd (true≢false h)
small_inverse (inf false) h = (refl, omega arith)
small_inverse (fin true n d) h = absurd (true≢false h.0)
small_inverse (fin false zero d) h = absurd (go (up d) (down d) (down_pos d) h.1)
  where
    go : (u v : ℕ) → 0 < v → v ≤ 0 * u → ⊥
    go u v p l = omega arith
small_inverse (fin false (suc n) d) h =
    rw (ne_eqb (suc n) 0 (λ p. omega (arith, p)))
    (small_round (1 * 1 * down d) (suc n * up d * 1) (mul-pos (mul-pos (zero-lt-suc n) (up_pos d)) (zero-lt-suc 0)) (go (suc n * up d) (down d) h.1))
  where
    go : (n v : ℕ) → v ≤ n → 1 * 1 * v ≤ n * 1
    go n v l = omega arith

plus_rest : (z : Float) → Small z → sign_of (1·0 ⊖ z) ≡ false
unfolding sub neg add sum sign_of of_bits
plus_rest nan h = refl
plus_rest (inf s) h = absurd h
plus_rest (fin true m e) h = absurd (true≢false h.0)
plus_rest (fin false m e) h = rw (le-ltb (1 * 1 * down e) (m * up e * 1) (go (m * up e) (down e) h.1)) (sign_round binary32 false (1 * 1 * down e - m * up e * 1) (1 * down e))
  where
    go : (n v : ℕ) → n ≤ v → n * 1 ≤ 1 * 1 * v
    go n v l = omega arith

-- the error function of a magnitude is none below zero
plus_core : (x : Float) → sign_of x ≡ false → sign_of (erf_core x) ≡ false
unfolding erf_core of_bits sign_of
plus_core x p =
    let d1 = plus_add (x ⊗ f 0x3d9f35db) (f 0x39573b11) (plus_mul x (f 0x3d9f35db) p refl) refl in
    let d2 = plus_add _ (f 0x3e6db0ec) (plus_mul _ x d1 p) refl in
    let d3 = plus_add _ (f 0x3e8e3e87) (plus_mul _ x d2 p) refl in
    plus_rest _ (small_square _ (small_inverse _ (big_square _ (big_sum _ (plus_mul _ x d3 p)))))

-- ---- one comparison gives the sign
below_sign : (x : Float) → lt x null ≡ true → sign_of x ≡ true
unfolding lt sign_of
below_sign nan h = h
below_sign (inf s) h = h
below_sign (fin true m e) h = refl
below_sign (fin false m e) h = absurd (not_under m e (yes h))

turned_core : (r : Float) → sign_of r ≡ false → neg r ≡ with_sign true r
unfolding neg with_sign sign_of
turned_core nan p = refl
turned_core (inf s) p = ap (λ (t : Bool). inf (not t)) p
turned_core (fin s m e) p = ap (λ (t : Bool). fin (not t) m e) p

kept_core : (r : Float) → sign_of r ≡ false → r ≡ with_sign false r
unfolding with_sign sign_of
kept_core nan p = refl
kept_core (inf s) p = ap inf p
kept_core (fin s m e) p = ap (λ (t : Bool). fin t m e) p

plus_abs : (x : Float) → sign_of (abs_of x) ≡ false
unfolding abs_of sign_of
plus_abs nan = refl
plus_abs (inf s) = refl
plus_abs (fin s m e) = refl

below_erf : (x : Float) → lt x null ≡ true → neg (erf_core (neg x)) ≡ fast_erff x
unfolding fast_erff
below_erf x h =
    ap (λ (a : Float). neg (erf_core a)) (abs_minus x (yes h))
    ∙ turned_core (erf_core (abs_of x)) (plus_core (abs_of x) (plus_abs x))
    ∙ ap (λ (s : Bool). with_sign s (erf_core (abs_of x))) (sym (below_sign x h))

plus_erf : (x : Float) → sign_of x ≡ false → x ≡ abs_of x → erf_core x ≡ fast_erff x
unfolding fast_erff
plus_erf x p h =
    ap erf_core h
    ∙ kept_core (erf_core (abs_of x)) (plus_core (abs_of x) (plus_abs x))
    ∙ ap (λ (s : Bool). with_sign s (erf_core (abs_of x))) (sym p)

null_erf : Nulls (erf_core (fin true 0 (pos 0))) (fast_erff (fin true 0 (pos 0)))
unfolding fast_erff erf_core add sub mul div of_bits
null_erf = record { sign = false; other = true; first = refl; second = refl }

null_fits : (u : Bool) (d : ℤ) → T (fits binary32 (fin u 0 d)) → fin u 0 d ≡ fin u 0 (pos 0)
unfolding fits
null_fits u d F = whole_unique binary32 (fin u 0 d) (fin u 0 (pos 0)) u 0 F tt (refl, ap (λ (z : ℕ). z * 1) (zero-mul (up d)) ∙ sym (zero-mul (down d))) (refl, refl)

other_erf : (x : Float) → T (fits binary32 x) → lt x null ≡ false → Alike (erf_core x) (fast_erff x)
unfolding lt abs_of sign_of
other_erf nan F h = inl (plus_erf nan refl refl)
other_erf (inf true) F h = absurd (true≢false h)
other_erf (inf false) F h = inl (plus_erf (inf false) refl refl)
other_erf (fin false m e) F h = inl (plus_erf (fin false m e) refl refl)
other_erf (fin true (suc m) e) F h = absurd (T_not (lt (fin true (suc m) e) null) (no h) (under m e))
other_erf (fin true zero e) F h = inr (subst (λ (x : Float). Nulls (erf_core x) (fast_erff x)) (sym (null_fits true e F)) null_erf)

pub erf_alike : (x a k r : Float) → T (fits binary32 x) → a ≡ cond (lt x null) (neg x) x → k ≡ erf_core a → r ≡ cond (lt x null) (neg k) k → Alike r (fast_erff x)
erf_alike x a k r F p q w = subst (λ (z : Float). Alike z (fast_erff x)) (sym (w ∙ ap (λ (z : Float). cond (lt x null) (neg z) z) (q ∙ ap erf_core p))) (by (lt x null) refl)
  where
    by : (b : Bool) → lt x null ≡ b → Alike (cond b (neg (erf_core (cond b (neg x) x))) (erf_core (cond b (neg x) x))) (fast_erff x)
    by true h = inl (below_erf x h)
    by false h = other_erf x F h

with_fits : (s : Bool) (r : Float) → T (fits binary32 r) → T (fits binary32 (with_sign s r))
unfolding with_sign fits
with_fits s nan F = F
with_fits s (inf t) F = F
with_fits s (fin t zero e) F = F
with_fits s (fin t (suc m) e) F = F

core_fits : (x : Float) → T (fits binary32 (erf_core x))
unfolding erf_core
core_fits x = sub-fits binary32 _ _

pub erff_fits : (x : Float) → T (fits binary32 (fast_erff x))
unfolding fast_erff
erff_fits x = with_fits (sign_of x) (erf_core (abs_of x)) (core_fits (abs_of x))

-- ---- the sign of a zero does not show
sum_left : (s u : Bool) (b c : ℕ) → 0 < b → sum binary32 s 0 u b c ≡ round binary32 u b c
unfolding sum
sum_left false false b c h = ap (λ (z : ℕ). round binary32 false z c) (zero-add b)
sum_left true true b c h = ap (λ (z : ℕ). round binary32 true z c) (zero-add b)
sum_left false true b c h = rw (lt-ltb 0 b h, sub-zero b)
sum_left true false b c h = rw (lt-ltb 0 b h, sub-zero b)

sum_right : (s u : Bool) (a c : ℕ) → 0 < a → sum binary32 s a u 0 c ≡ round binary32 s a c
unfolding sum
sum_right false false a c h = ap (λ (z : ℕ). round binary32 false z c) (add-zero a)
sum_right true true a c h = ap (λ (z : ℕ). round binary32 true z c) (add-zero a)
sum_right false true a c h = rw (le-ltb a 0 (omega arith), sub-zero a)
sum_right true false a c h = rw (le-ltb a 0 (omega arith), lt-ltb 0 a h, sub-zero a)

no_times : (u : ℕ) → 0 * 1 * u ≡ 0
no_times u = omega arith

-- a zero less a zero is one
null_null : (s t : Bool) → Nulls (fin s 0 (pos 0) ⊖ fin t 0 (pos 0)) null
unfolding sub
null_null false false = record { sign = false; other = false; first = refl; second = refl }
null_null false true = record { sign = false; other = false; first = refl; second = refl }
null_null true false = record { sign = true; other = false; first = refl; second = refl }
null_null true true = record { sign = false; other = false; first = refl; second = refl }

both_null : (s t u v : Bool) → Alike (fin s 0 (pos 0) ⊖ fin u 0 (pos 0)) (fin t 0 (pos 0) ⊖ fin v 0 (pos 0))
both_null s t u v = inr (record { sign = (null_null s u).sign; other = (null_null t v).sign; first = (null_null s u).first; second = (null_null t v).first })

-- a zero less anything
null_less : (s t : Bool) (y : Float) → T (fits binary32 y) → Alike (fin s 0 (pos 0) ⊖ y) (fin t 0 (pos 0) ⊖ y)
unfolding sub neg add
null_less s t nan F = inl refl
null_less s t (inf u) F = inl refl
null_less s t (fin u zero d) F = subst (λ (y : Float). Alike (fin s 0 (pos 0) ⊖ y) (fin t 0 (pos 0) ⊖ y)) (sym (null_fits u d F)) (both_null s t u u)
null_less s t (fin u (suc n) d) F =
    let b = suc n * up d * 1 in
    let p : 0 < b = mul-pos (mul-pos (zero-lt-suc n) (up_pos d)) (zero-lt-suc 0) in
    inl (ap (λ (a : ℕ). sum binary32 s a (not u) b (1 * down d)) (no_times (down d)) ∙ sum_left s (not u) b (1 * down d) p
    ∙ sym (ap (λ (a : ℕ). sum binary32 t a (not u) b (1 * down d)) (no_times (down d)) ∙ sum_left t (not u) b (1 * down d) p))

-- anything less a zero
less_null : (s t : Bool) (x : Float) → T (fits binary32 x) → Alike (x ⊖ fin s 0 (pos 0)) (x ⊖ fin t 0 (pos 0))
unfolding sub neg add
less_null s t nan F = inl refl
less_null s t (inf u) F = inl refl
less_null s t (fin u zero d) F = subst (λ (x : Float). Alike (x ⊖ fin s 0 (pos 0)) (x ⊖ fin t 0 (pos 0))) (sym (null_fits u d F)) (both_null u u s t)
less_null s t (fin u (suc n) d) F =
    let a = suc n * up d * 1 in
    let p : 0 < a = mul-pos (mul-pos (zero-lt-suc n) (up_pos d)) (zero-lt-suc 0) in
    inl (ap (λ (b : ℕ). sum binary32 u a (not s) b (down d * 1)) (no_times (down d)) ∙ sum_right u (not s) a (down d * 1) p
    ∙ sym (ap (λ (b : ℕ). sum binary32 u a (not t) b (down d * 1)) (no_times (down d)) ∙ sum_right u (not t) a (down d * 1) p))

pub difference_alike : (x x' y y' : Float) → T (fits binary32 x') → T (fits binary32 y') → Alike x x' → Alike y y' → Alike (x ⊖ y) (x' ⊖ y')
difference_alike x x' y y' F G (inl p) (inl q) = inl (ap (λ (z : Float). z ⊖ y) p ∙ ap (λ (z : Float). x' ⊖ z) q)
difference_alike x x' y y' F G (inr n) (inl q) =
    subst (λ (z : Float). Alike (x ⊖ z) (x' ⊖ y')) (sym q)
    (subst (λ (z : Float). Alike (z ⊖ y') (x' ⊖ y')) (sym n.first) (subst (λ (z : Float). Alike (fin n.sign 0 (pos 0) ⊖ y') (z ⊖ y')) (sym n.second) (null_less n.sign n.other y' G)))
difference_alike x x' y y' F G (inl p) (inr n) =
    subst (λ (z : Float). Alike (z ⊖ y) (x' ⊖ y')) (sym p)
    (subst (λ (z : Float). Alike (x' ⊖ z) (x' ⊖ y')) (sym n.first) (subst (λ (z : Float). Alike (x' ⊖ fin n.sign 0 (pos 0)) (x' ⊖ z)) (sym n.second) (less_null n.sign n.other x' F)))
difference_alike x x' y y' F G (inr m) (inr n) =
    subst (λ (z : Float). Alike (z ⊖ y) (x' ⊖ y')) (sym m.first)
    (subst (λ (z : Float). Alike (fin m.sign 0 (pos 0) ⊖ y) (z ⊖ y')) (sym m.second)
    (subst (λ (z : Float). Alike (fin m.sign 0 (pos 0) ⊖ z) (fin m.other 0 (pos 0) ⊖ y')) (sym n.first)
    (subst (λ (z : Float). Alike (fin m.sign 0 (pos 0) ⊖ fin n.sign 0 (pos 0)) (fin m.other 0 (pos 0) ⊖ z)) (sym n.second)
    (both_null m.sign m.other n.sign n.other))))

null_of : (s : Bool) → round binary32 s 0 1 ≡ fin s 0 (pos 0)
unfolding round
null_of true = refl
null_of false = refl

round_null : (s : Bool) (a c : ℕ) → a ≡ 0 → 0 < c → round binary32 s a c ≡ fin s 0 (pos 0)
round_null s a c p C = round_same binary32 s a c 0 1 C (zero-lt-suc 0) (omega (arith, p)) ∙ null_of s

-- a number times a zero, twice: the sign is the number's
twice_null : (u s : Bool) → fin (unlike u s) 0 (pos 0) ⊗ fin s 0 (pos 0) ≡ fin u 0 (pos 0)
unfolding mul
twice_null true true = refl
twice_null true false = refl
twice_null false true = refl
twice_null false false = refl

null_square : (s t : Bool) (x : Float) → x ⊗ fin s 0 (pos 0) ⊗ fin s 0 (pos 0) ≡ x ⊗ fin t 0 (pos 0) ⊗ fin t 0 (pos 0)
unfolding mul
null_square s t nan = refl
null_square s t (inf u) = refl
null_square s t (fin u m e) = once s ∙ sym (once t)
  where
    once : (s : Bool) → fin u m e ⊗ fin s 0 (pos 0) ⊗ fin s 0 (pos 0) ≡ fin u 0 (pos 0)
    once s =
        ap (λ (z : Float). z ⊗ fin s 0 (pos 0)) (round_null (unlike u s) (m * up e * (0 * 1)) (down e * 1) (omega arith) (mul-pos (down_pos e) (zero-lt-suc 0)))
        ∙ twice_null u s

pub square_alike : (k x y : Float) → Alike x y → k ⊗ x ⊗ x ≡ k ⊗ y ⊗ y
square_alike k x y (inl p) = ap (λ (z : Float). k ⊗ z ⊗ z) p
square_alike k x y (inr n) =
    ap (λ (z : Float). k ⊗ z ⊗ z) n.first ∙ null_square n.sign n.other k ∙ sym (ap (λ (z : Float). k ⊗ z ⊗ z) n.second)

-- Assumes nothing.
