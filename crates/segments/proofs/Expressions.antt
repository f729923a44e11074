-- One R, and the ranges as spline.rs writes them: what saturates is beyond the last row or column, and the sum that wraps is the end of a range that has none.
use mathlib.Core.Path.{◌≡◌, refl, sym, ap, ◌∙◌, subst}
use mathlib.Core.Bool.{Bool, true, false, not, ◌&&◌, cond}
use Prim.Native.Nat.{ℕ, zero, suc, ◌+◌, ◌-◌, ◌*◌, ◌/◌, ◌%◌, ◌^◌, ◌≤◌, ◌<◌, min}
use native.Mathlib.Nat.{le_trans, le_of_eq, lt_of_le_of_lt, lt_irrefl, mul-one, mul_assoc, pow-suc}
use native.Mathlib.Omega.{arith}
use lib.IntN.{ℤ, pos, negsuc, neg_ℤ, suc_ℤ, +ℤ_one}
use lib.Signed.{le_z, lt_z}
use lib.Dec.{T, leb, ltb, leb→le, le→leb, ltb→lt, lt→ltb, nltb→le, lit≤, leb-zero, leb-suc-zero}
use lib.Arith.{lt→nleb, lt_of_le-ne}
use lib.Ieee.Bits.{is_false}
use lib.Ieee.{Float, nan, inf, fin, binary32, up, down, fits, to_signed, to_unsigned}
use lib.Ieee.Fits.{down_pos, and_l, and_r, add-fits, sub-fits}
use Rattle.numbers.specs.Arith.{◌⊕◌, ◌⊖◌}
use Rattle.wholes.specs.Whole.{half, round_of}
use Rattle.wholes.proofs.Wholes.{half_id, digits}
use Rattle.segments.specs.Bounds.{Bound, under, at, over, rounded, or_zero, begins_by, lasts_to}
use Rattle.segments.specs.Expressions.{bound_of, one_more_i64, one_more_usize, as_i64, as_usize, AsSplineRs}
use Rattle.wholes.proofs.Quotients.{half_le}
use Rattle.segments.proofs.ByBound.{one_r, joined, rows_by_kind, columns_by_kind}

-- ---- a bound held to the range
abbrev held_i64 : Bound → ℤ
held_i64 under = neg_ℤ (pos (2 ^ 63))
held_i64 (at (pos n)) = pos (min n (2 ^ 63 - 1))
held_i64 (at (negsuc n)) = neg_ℤ (pos (min (suc n) (2 ^ 63)))
held_i64 over = pos (2 ^ 63 - 1)

abbrev held_usize : Bound → ℕ
held_usize under = 0
held_usize (at (pos n)) = min n (2 ^ 64 - 1)
held_usize (at (negsuc n)) = 0
held_usize over = 2 ^ 64 - 1

signed_held : (r : Float) → to_signed 63 r ≡ held_i64 (bound_of r)
unfolding to_signed bound_of
signed_held nan = refl
signed_held (inf true) = refl
signed_held (inf false) = refl
signed_held (fin true m e) = go (m * up e / down e)
  where
    go : (n : ℕ) → neg_ℤ (pos (min n (2 ^ 63))) ≡ held_i64 (at (neg_ℤ (pos n)))
    go zero = refl
    go (suc n) = refl
signed_held (fin false m e) = refl

unsigned_held : (r : Float) → to_unsigned 64 r ≡ held_usize (bound_of r)
unfolding to_unsigned bound_of
unsigned_held nan = refl
unsigned_held (inf true) = refl
unsigned_held (inf false) = refl
unsigned_held (fin true m e) = go (m * up e / down e)
  where
    go : (n : ℕ) → 0 ≡ held_usize (at (neg_ℤ (pos n)))
    go zero = refl
    go (suc n) = refl
unsigned_held (fin false m e) = refl

i64_is : (x : Float) → T (fits binary32 x) → as_i64 x ≡ held_i64 (rounded x)
i64_is x F = signed_held (round_of binary32 x) ∙ ap held_i64 (sym (one_r x F))

usize_is : (x : Float) → T (fits binary32 x) → as_usize x ≡ held_usize (rounded x)
usize_is x F = unsigned_held (round_of binary32 x) ∙ ap held_usize (sym (one_r x F))

-- ---- no f32 rounds to the largest number of 63 or 64 bits, which is odd
no_odd : (m : ℕ) (e : ℤ) (c : ℕ) → T (fits binary32 (fin false m e)) → 16777216 ≤ c → c % 2 ≡ 1 → half (m * up e) (down e) ≡ c → ⊥
no_odd m (pos zero) c F h o e = go m c (digits binary32 false m (pos zero) F) h (sym (mul-one m) ∙ sym (half_id (m * 1)) ∙ e)
  where
    go : (m c : ℕ) → m < 16777216 → 16777216 ≤ c → m ≡ c → ⊥
    go m c a b d = omega arith
no_odd m (pos (suc k)) c F h o e = go (m * 2 ^ k) c o (mul_assoc m (2 ^ k) 2 ∙ ap (λ (z : ℕ). m * z) (sym (pow-suc 2 k)) ∙ sym (half_id (m * 2 ^ suc k)) ∙ e)
  where
    go : (a c : ℕ) → c % 2 ≡ 1 → a * 2 ≡ c → ⊥
    go a c o e = omega arith
no_odd m (negsuc k) c F h o e = go m (half (m * 1) (2 ^ suc k)) c (digits binary32 false m (negsuc k) F) (le_trans (half_le (m * 1) (2 ^ suc k) (down_pos (negsuc k))) (le_of_eq (mul-one m))) h e
  where
    go : (m a c : ℕ) → m < 16777216 → a ≤ m → 16777216 ≤ c → a ≡ c → ⊥
    go m a c l g h e = omega arith

abbrev Not : ℕ → Bound → Type 0
Not c under = Unit {0}
Not c (at (pos n)) = n ≡ c → ⊥
Not c (at (negsuc n)) = Unit {0}
Not c over = Unit {0}

never : (x : Float) (c : ℕ) → T (fits binary32 x) → 16777216 ≤ c → c % 2 ≡ 1 → Not c (rounded x)
unfolding rounded
never nan c F h o = λ e. go c h e
  where
    go : (c : ℕ) → 16777216 ≤ c → 0 ≡ c → ⊥
    go c h e = omega arith
never (inf true) c F h o = tt
never (inf false) c F h o = tt
never (fin true m e) c F h o = go (half (m * up e) (down e))
  where
    go : (n : ℕ) → Not c (at (neg_ℤ (pos n)))
    go zero = λ e. none c h e
      where
        none : (c : ℕ) → 16777216 ≤ c → 0 ≡ c → ⊥
        none c h e = omega arith
    go (suc n) = tt
never (fin false m e) c F h o = no_odd m e c F h o

-- ---- tests
same : (a b : Bool) → (T a → T b) → (T b → T a) → a ≡ b
same true true f g = refl
same true false f g = absurd (f tt)
same false true f g = absurd (g tt)
same false false f g = refl

-- y ≤ n is y < n + 1
leb_next : (y n : ℕ) → leb y n ≡ ltb y (n + 1)
leb_next y n = same (leb y n) (ltb y (n + 1)) (λ t. lt→ltb y (n + 1) (go y n (leb→le y n t))) (λ t. le→leb y n (go2 y n (ltb→lt y (n + 1) t)))
  where
    go : (y n : ℕ) → y ≤ n → y < n + 1
    go y n h = omega arith

    go2 : (y n : ℕ) → y < n + 1 → y ≤ n
    go2 y n h = omega arith

-- a bound that is cut at c is passed by what is below c as before
capped : (n c y : ℕ) → y < c → leb n y ≡ leb (min n c) y
capped n c y h = same (leb n y) (leb (min n c) y) (λ t. le→leb (min n c) y (go n c y (leb→le n y t))) (λ t. le→leb n y (go2 n c y h (leb→le (min n c) y t)))
  where
    go : (n c y : ℕ) → n ≤ y → min n c ≤ y
    go n c y h = omega arith

    go2 : (n c y : ℕ) → y < c → min n c ≤ y → n ≤ y
    go2 n c y h g = omega arith

never_reached : (c y : ℕ) → y < c → false ≡ leb c y
never_reached c y h = sym (is_false (leb c y) (lt→nleb c y h))

-- what lasts to y lies above it, and is not the largest number
lasts_past : (c : ℕ) (b : Bound) (y : ℕ) → Not c b → T (lasts_to (c + 1) b y) → y < c
lasts_past c under y n t = absurd t
lasts_past c (at (pos k)) y n t = go k c y (ltb→lt k (c + 1) (and_l (ltb k (c + 1)) (leb y k) t)) (leb→le y k (and_r (ltb k (c + 1)) (leb y k) t)) n
  where
    go : (k c y : ℕ) → k < c + 1 → y ≤ k → (k ≡ c → ⊥) → y < c
    go k c y h g n = lt_of_le_of_lt g (lt_of_le-ne (go2 k c h) n)
      where
        go2 : (k c : ℕ) → k < c + 1 → k ≤ c
        go2 k c h = omega arith
lasts_past c (at (negsuc k)) y n t = absurd t
lasts_past c over y n t = absurd t

-- ---- rows
abbrev most_i64 : ℕ
most_i64 = 9223372036854775807

row_begins_lem : (b : Bound) (y : ℕ) → y < 9223372036854775807 → begins_by b y ≡ le_z (held_i64 b) (pos y)
row_begins_lem under y h = refl
row_begins_lem (at (pos n)) y h = capped n 9223372036854775807 y h
row_begins_lem (at (negsuc n)) y h = go (min (suc n) 9223372036854775808)
  where
    go : (a : ℕ) → true ≡ le_z (neg_ℤ (pos a)) (pos y)
    go zero = sym (leb-zero y)
    go (suc a) = refl
row_begins_lem over y h = never_reached 9223372036854775807 y h

-- one more of what is not the largest, and of the largest
one_more : (k y : ℕ) → k < most_i64 → lt_z (pos y) (one_more_i64 (pos k)) ≡ ltb y (k + 1)
one_more k y h = ap (λ (t : Bool). lt_z (pos y) (cond t (neg_ℤ (pos 9223372036854775808)) (pos (k + 1)))) (is_false (leb most_i64 k) (lt→nleb most_i64 k h))

row_lasts_lem : (b : Bound) (y : ℕ) → Not 9223372036854775807 b → lasts_to 9223372036854775808 b y ≡ lt_z (pos y) (one_more_i64 (held_i64 b))
row_lasts_lem under y n = refl
row_lasts_lem (at (pos k)) y n = go (ltb k 9223372036854775808) (ltb→lt k 9223372036854775808) (nltb→le k 9223372036854775808)
  where
    below : (k : ℕ) → k < 9223372036854775808 → k ≤ 9223372036854775807
    below k h = omega arith

    kept : (k : ℕ) → k < 9223372036854775807 → k ≡ min k 9223372036854775807
    kept k h = omega arith

    largest : (k : ℕ) → 9223372036854775808 ≤ k → 9223372036854775807 ≡ min k 9223372036854775807
    largest k h = omega arith

    go : (t : Bool) → (T t → k < 9223372036854775808) → (T (not t) → 9223372036854775808 ≤ k) → (t && leb y k) ≡ lt_z (pos y) (one_more_i64 (pos (min k 9223372036854775807)))
    go true f g =
        let l : k < 9223372036854775807 = lt_of_le-ne (below k (f tt)) n in
        leb_next y k ∙ sym (one_more k y l) ∙ ap (λ (z : ℕ). lt_z (pos y) (one_more_i64 (pos z))) (kept k l)
    go false f g = ap (λ (z : ℕ). lt_z (pos y) (one_more_i64 (pos z))) (largest k (g tt))
row_lasts_lem (at (negsuc k)) y n = go (min (suc k) 9223372036854775808) (some k)
  where
    some : (k : ℕ) → 0 < min (suc k) 9223372036854775808
    some k = omega arith

    up : (a : ℕ) → lt_z (pos y) (suc_ℤ (negsuc a)) ≡ false
    up zero = leb-suc-zero y
    up (suc a) = refl

    go : (a : ℕ) → 0 < a → false ≡ lt_z (pos y) (one_more_i64 (neg_ℤ (pos a)))
    go zero h = absurd (omega arith)
    go (suc a) h = sym (ap (lt_z (pos y)) (+ℤ_one (negsuc a)) ∙ up a)
row_lasts_lem over y n = refl

-- ---- columns
column_begins_lem : (b : Bound) (x : ℕ) → x < 18446744073709551615 → begins_by (or_zero b) x ≡ leb (held_usize b) x
column_begins_lem under x h = refl
column_begins_lem (at (pos n)) x h = capped n 18446744073709551615 x h
column_begins_lem (at (negsuc n)) x h = refl
column_begins_lem over x h = never_reached 18446744073709551615 x h

column_lasts_lem : (b : Bound) (x : ℕ) → Not 18446744073709551615 b → lasts_to 18446744073709551616 (or_zero b) x ≡ ltb x (one_more_usize (held_usize b))
column_lasts_lem under x n = leb_next x 0
column_lasts_lem (at (pos k)) x n = go (ltb k 18446744073709551616) (ltb→lt k 18446744073709551616) (nltb→le k 18446744073709551616)
  where
    below : (k : ℕ) → k < 18446744073709551616 → k ≤ 18446744073709551615
    below k h = omega arith

    kept : (k : ℕ) → k < 18446744073709551615 → k + 1 ≡ (min k 18446744073709551615 + 1) % 18446744073709551616
    kept k h = omega arith

    largest : (k : ℕ) → 18446744073709551616 ≤ k → 0 ≡ (min k 18446744073709551615 + 1) % 18446744073709551616
    largest k h = omega arith

    go : (t : Bool) → (T t → k < 18446744073709551616) → (T (not t) → 18446744073709551616 ≤ k) → (t && leb x k) ≡ ltb x (one_more_usize (min k 18446744073709551615))
    go true f g = leb_next x k ∙ ap (ltb x) (kept k (lt_of_le-ne (below k (f tt)) n))
    go false f g = sym (leb-suc-zero x) ∙ ap (ltb x) (largest k (g tt))
column_lasts_lem (at (negsuc k)) x n = leb_next x 0
column_lasts_lem over x n = sym (leb-suc-zero x)

not_positive : (c : ℕ) (b : Bound) → 0 < c → Not c b → Not c (or_zero b)
not_positive c under h n = λ e. lt_irrefl 0 (subst (λ (z : ℕ). 0 < z) (sym e) h)
not_positive c (at (pos k)) h n = n
not_positive c (at (negsuc k)) h n = λ e. lt_irrefl 0 (subst (λ (z : ℕ). 0 < z) (sym e) h)
not_positive c over h n = tt

-- ---- the theorem
module _ (lo hi : Float) (F : T (fits binary32 lo)) (G : T (fits binary32 hi)) where
  not_top : Not 9223372036854775807 (rounded hi)
  not_top = never hi 9223372036854775807 G (lit≤ tt) refl

  not_end : Not 18446744073709551615 (rounded hi)
  not_end = never hi 18446744073709551615 G (lit≤ tt) refl

  row_range : (y : ℕ) → (begins_by (rounded lo) y && lasts_to (2 ^ 63) (rounded hi) y) ≡ (le_z (as_i64 lo) (pos y) && lt_z (pos y) (one_more_i64 (as_i64 hi)))
  row_range y = joined (begins_by (rounded lo) y) (lasts_to (2 ^ 63) (rounded hi) y) (le_z (as_i64 lo) (pos y)) (lt_z (pos y) (one_more_i64 (as_i64 hi)))
      (row_lasts_lem (rounded hi) y not_top ∙ ap (λ (z : ℤ). lt_z (pos y) (one_more_i64 z)) (sym (i64_is hi G)))
      (λ t. row_begins_lem (rounded lo) y (lasts_past 9223372036854775807 (rounded hi) y not_top t) ∙ ap (λ (z : ℤ). le_z z (pos y)) (sym (i64_is lo F)))

  column_range : (x : ℕ) → (begins_by (or_zero (rounded lo)) x && lasts_to (2 ^ 64) (or_zero (rounded hi)) x) ≡ (leb (as_usize lo) x && ltb x (one_more_usize (as_usize hi)))
  column_range x = joined (begins_by (or_zero (rounded lo)) x) (lasts_to (2 ^ 64) (or_zero (rounded hi)) x) (leb (as_usize lo) x) (ltb x (one_more_usize (as_usize hi)))
      (column_lasts_lem (rounded hi) x not_end ∙ ap (λ (z : ℕ). ltb x (one_more_usize z)) (sym (usize_is hi G)))
      (λ t. column_begins_lem (rounded lo) x (lasts_past 18446744073709551615 (or_zero (rounded hi)) x (not_positive 18446744073709551615 (rounded hi) (lit≤ tt) not_end) t) ∙ ap (λ (z : ℕ). leb z x) (sym (usize_is lo F)))

pub as_spline_rs : AsSplineRs
as_spline_rs = record {
  one_r = one_r;
  rows = λ s y. rows_by_kind s y ∙ row_range (s.center_y ⊖ s.maximum_distance) (s.center_y ⊕ s.maximum_distance) (sub-fits binary32 s.center_y s.maximum_distance) (add-fits binary32 s.center_y s.maximum_distance) y;
  columns = λ s x. columns_by_kind s x ∙ column_range (s.center_x ⊖ s.maximum_distance) (s.center_x ⊕ s.maximum_distance) (sub-fits binary32 s.center_x s.maximum_distance) (add-fits binary32 s.center_x s.maximum_distance) x;
}

-- Assumes nothing.
