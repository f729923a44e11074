-- The laws of a length that callers cite: whole numbers of up to prec digits are values of the format, so their `hypot` is the root of the exact sum; signs and order do not matter; and the readings, computed.
use mathlib.Core.Path.{◌≡◌, refl, sym, ap, ◌∙◌}
use mathlib.Core.Bool.{Bool, true, false}
use Prim.Native.Nat.{ℕ, zero, suc, ◌+◌, ◌*◌, ◌/◌, ◌^◌, ◌≤◌, ◌<◌}
use native.Mathlib.Nat.{mul-le-mul, add_comm, add-mul, mul-one, mul_right_comm, mul-mul-mul_comm, mul-div_cancel}
use native.Mathlib.Omega.{arith}
use lib.IntN.{ℤ, pos, negsuc, neg_ℤ, nat_abs}
use lib.Ieee.{Float, nan, inf, fin, Format, binary32, prec, low, up, down, of_int}
use lib.Ieee.Back.{round_whole}
use lib.Ieee.Exact.{HasValue}
use lib.Ieee.Fits.{down_pos}
use Rattle.roots.specs.Root.{root_of, root_of_whole}
use Rattle.roots.specs.Length.{units_in, squares, hypot_of, length_of, NearestWhole}
use Rattle.roots.proofs.RootOf.{square}
use Rattle.ieee754.proofs.Nearness.{whole_root}

-- ---- hypot of whole numbers
units_are : (f : Format) (m a : ℕ) (e : ℤ) → m * up e * 1 ≡ a * down e → units_in f m e ≡ a * 2 ^ low f
units_are f m a e h =
    ap (λ (z : ℕ). z * 2 ^ low f / down e) (sym (mul-one (m * up e)) ∙ h)
    ∙ ap (λ (z : ℕ). z / down e) (mul_right_comm a (down e) (2 ^ low f))
    ∙ mul-div_cancel (a * 2 ^ low f) (down_pos e)

squares_scaled : (a b c : ℕ) → squares (a * c) (b * c) ≡ squares a b * (c * c)
squares_scaled a b c = ap (λ (z : ℕ). z + b * c * (b * c)) (mul-mul-mul_comm a c a c) ∙ ap (λ (z : ℕ). a * a * (c * c) + z) (mul-mul-mul_comm b c b c) ∙ sym (add-mul (a * a) (b * b) (c * c))

hypot_of_values : (f : Format) (x y : Float) (s t : Bool) (a b : ℕ) → HasValue x s a 1 → HasValue y t b 1 → hypot_of f x y ≡ root_of_whole f (squares a b)
unfolding hypot_of root_of_whole
hypot_of_values f nan y s t a b v w = absurd v
hypot_of_values f (inf z) y s t a b v w = absurd v
hypot_of_values f (fin z m e) nan s t a b v w = absurd w
hypot_of_values f (fin z m e) (inf u) s t a b v w = absurd w
hypot_of_values f (fin z m e) (fin u n d) s t a b v w =
    ap (λ (k : ℕ). root_of f (squares k (units_in f n d))) (units_are f m a e v.1)
    ∙ ap (λ (k : ℕ). root_of f (squares (a * 2 ^ low f) k)) (units_are f n b d w.1)
    ∙ ap (root_of f) (squares_scaled a b (2 ^ low f) ∙ ap (λ (k : ℕ). squares a b * k) (sym (square (low f))))

below_zero : ℤ → Bool
below_zero (pos n) = false
below_zero (negsuc n) = true

whole_value : (f : Format) (z : ℤ) → nat_abs z ≤ 2 ^ prec f → HasValue (of_int f z) (below_zero z) (nat_abs z) 1
unfolding of_int below_zero
whole_value f (pos n) h = round_whole f false n h
whole_value f (negsuc n) h = round_whole f true (suc n) h

pub hypot_of_wholes : (f : Format) (x y : ℤ) → nat_abs x ≤ 2 ^ prec f → nat_abs y ≤ 2 ^ prec f → hypot_of f (of_int f x) (of_int f y) ≡ root_of_whole f (squares (nat_abs x) (nat_abs y))
hypot_of_wholes f x y g h = hypot_of_values f (of_int f x) (of_int f y) (below_zero x) (below_zero y) (nat_abs x) (nat_abs y) (whole_value f x g) (whole_value f y h)

pub hypot_is_length : (x y : ℤ) → nat_abs x ≤ 16777216 → nat_abs y ≤ 16777216 → hypot_of binary32 (of_int binary32 x) (of_int binary32 y) ≡ length_of x y
unfolding length_of
hypot_is_length x y g h = hypot_of_wholes binary32 x y g h

-- ---- no f32 lies nearer
whole_nearest : (n : ℕ) → n < 2 ^ 64 → NearestWhole binary32 n (root_of_whole binary32 n)
whole_nearest n h = let w = whole_root binary32 n h in record { root = w.size; is = w.is; below = w.below; above = w.above }

pub length_nearest : (x y : ℤ) → nat_abs x ≤ 2147483648 → nat_abs y ≤ 2147483648 → NearestWhole binary32 (squares (nat_abs x) (nat_abs y)) (length_of x y)
unfolding length_of
length_nearest x y g h = whole_nearest (squares (nat_abs x) (nat_abs y)) (go (nat_abs x * nat_abs x) (nat_abs y * nat_abs y) (mul-le-mul g g) (mul-le-mul h h))
  where
    go : (a b : ℕ) → a ≤ 4611686018427387904 → b ≤ 4611686018427387904 → a + b < 18446744073709551616
    go a b g h = omega arith

-- ---- signs and order
abs_neg : (z : ℤ) → nat_abs (neg_ℤ z) ≡ nat_abs z
abs_neg (pos zero) = refl
abs_neg (pos (suc n)) = refl
abs_neg (negsuc n) = refl

pub length_neg_x : (x y : ℤ) → length_of (neg_ℤ x) y ≡ length_of x y
unfolding length_of
length_neg_x x y = ap (λ (a : ℕ). root_of_whole binary32 (squares a (nat_abs y))) (abs_neg x)

pub length_neg_y : (x y : ℤ) → length_of x (neg_ℤ y) ≡ length_of x y
unfolding length_of
length_neg_y x y = ap (λ (b : ℕ). root_of_whole binary32 (squares (nat_abs x) b)) (abs_neg y)

pub length_swap : (x y : ℤ) → length_of x y ≡ length_of y x
unfolding length_of
length_swap x y = ap (root_of_whole binary32) (add_comm (nat_abs x * nat_abs x) (nat_abs y * nat_abs y))

-- ---- readings
-- the difference (3, 4) has length 5
pub three_four : length_of (pos 3) (pos 4) ≡ fin false 5 (pos 0)
unfolding length_of
three_four = refl

-- A tie does occur: the root is 20971515, which lies in the middle of 20971514 and 20971516, and 20971516 / 2 is even.
pub tie_occurs : squares 12582909 16777212 ≡ 20971515 * 20971515
tie_occurs = refl

pub tie_to_even : length_of (pos 12582909) (pos 16777212) ≡ fin false 5242879 (pos 2)
unfolding length_of
tie_to_even = refl

-- an infinity gives plus infinity, also beside a NaN; else a NaN gives a NaN
pub hypot_infinite : (f : Format) (s : Bool) (y : Float) → (hypot_of f (inf s) y ≡ inf false) × (hypot_of f y (inf s) ≡ inf false)
unfolding hypot_of
hypot_infinite f s nan = (refl, refl)
hypot_infinite f s (inf t) = (refl, refl)
hypot_infinite f s (fin t n d) = (refl, refl)

-- Assumes nothing.
