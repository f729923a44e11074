-- The ranges by kind are the ranges by a bound: the kinds of an end, case by case, and a first end above the range is past every last one.
use mathlib.Core.Path.{◌≡◌, refl, sym, ap, ◌∙◌, subst}
use mathlib.Core.Bool.{Bool, true, false, not, ◌&&◌, cond}
use Prim.Native.Nat.{ℕ, ◌*◌, ◌/◌, ◌^◌, ◌≤◌, ◌<◌}
use native.Mathlib.Nat.{mul-one, mul-div_cancel, lt_of_le_of_lt}
use native.Mathlib.Omega.{arith}
use lib.IntN.{ℤ, pos, negsuc, neg_ℤ, nat_abs}
use lib.Dec.{T, leb, ltb, leb→le, ltb→lt, lt→ltb, nltb→le}
use lib.Arith.{lt→nleb, le→nltb}
use lib.Ieee.Bits.{is_false}
use lib.Ieee.{Float, nan, inf, fin, binary32, up, down, fits}
use lib.Ieee.Fits.{down_pos, and_l, and_r, add-fits, sub-fits}
use lib.Ieee.Exact.{HasValue}
use Rattle.numbers.specs.Arith.{◌⊕◌, ◌⊖◌}
use Rattle.wholes.specs.Whole.{half, whole_by, round_of}
use Rattle.kinds.specs.Kind.{within, kind_by, cut_i64, cut_u64}
use Rattle.kinds.specs.declared.Kind.{Kind}
use Rattle.kinds.specs.declared.Kind.TheVariants.{Exact, Below, Above}
use Rattle.wholes.proofs.Quotients.{round_value}
use Rattle.segments.specs.Ranges.{row_begins, row_lasts, column_begins, column_lasts, has_row, has_column}
use Rattle.segments.specs.Bounds.{Bound, under, at, over, rounded, or_zero, begins_by, lasts_to, RowsByKind, ColumnsByKind}
use Rattle.segments.specs.Expressions.{bound_of}

-- ---- one R
bound_is : (r : Float) (s : Bool) (n : ℕ) → HasValue r s n 1 → at (cond s (neg_ℤ (pos n)) (pos n)) ≡ bound_of r
unfolding bound_of
bound_is nan s n v = absurd v
bound_is (inf t) s n v = absurd v
bound_is (fin t m e) s n v =
    ap (λ (z : Bool). at (cond z (neg_ℤ (pos n)) (pos n))) (sym v.0)
    ∙ ap (λ (z : ℕ). at (cond t (neg_ℤ (pos z)) (pos z))) (sym (ap (λ (z : ℕ). z / down e) (sym (mul-one (m * up e)) ∙ v.1) ∙ mul-div_cancel n (down_pos e)))

pub one_r : (x : Float) → T (fits binary32 x) → rounded x ≡ bound_of (round_of binary32 x)
unfolding rounded bound_of whole_by
one_r nan F = refl
one_r (inf s) F = refl
one_r (fin s m e) F = bound_is (round_of binary32 (fin s m e)) s (half (m * up e) (down e)) (round_value binary32 s m e F)

-- ---- tests

-- two tests are one where the second part, passed, tells that the first parts are
pub joined : (a b c d : Bool) → b ≡ d → (T b → a ≡ c) → (a && b) ≡ (c && d)
joined a true c d e f = rw (← e, f tt)
joined a false c d e f = rw (← e) (go a c)
  where
    go : (a c : Bool) → (a && false) ≡ (c && false)
    go true true = refl
    go true false = refl
    go false true = refl
    go false false = refl

is_true : (b : Bool) → T b → b ≡ true
is_true true t = refl
is_true false t = absurd t

-- what lasts to y has it below the limit
below_limit : (limit : ℕ) (b : Bound) (y : ℕ) → T (lasts_to limit b y) → y < limit
below_limit limit under y t = absurd t
below_limit limit (at (pos n)) y t = lt_of_le_of_lt (leb→le y n (and_r (ltb n limit) (leb y n) t)) (ltb→lt n limit (and_l (ltb n limit) (leb y n) t))
below_limit limit (at (negsuc n)) y t = absurd t
below_limit limit over y t = absurd t

-- ---- a whole number held to the range

abbrev row_at : ℤ → Kind ℤ
row_at z = within Exact Below Above (negsuc 9223372036854775807) (pos 9223372036854775807) z

row_lasts_at : (z : ℤ) (y : ℕ) → row_lasts (row_at z) y ≡ lasts_to 9223372036854775808 (at z) y
row_lasts_at (pos n) y = go (ltb 9223372036854775807 n) (ltb→lt 9223372036854775807 n) (nltb→le 9223372036854775807 n)
  where
    beyond : 9223372036854775807 < n → 9223372036854775808 ≤ n
    beyond h = omega arith

    inside : n ≤ 9223372036854775807 → n < 9223372036854775808
    inside h = omega arith

    go : (t : Bool) → (T t → 9223372036854775807 < n) → (T (not t) → n ≤ 9223372036854775807) → row_lasts (cond t Above (Exact (pos n))) y ≡ ltb n 9223372036854775808 && leb y n
    go true f g = ap (λ (b : Bool). b && leb y n) (sym (is_false (ltb n 9223372036854775808) (le→nltb n 9223372036854775808 (beyond (f tt)))))
    go false f g = ap (λ (b : Bool). b && leb y n) (sym (is_true (ltb n 9223372036854775808) (lt→ltb n 9223372036854775808 (inside (g tt)))))
row_lasts_at (negsuc n) y = go (ltb 9223372036854775807 n)
  where
    go : (t : Bool) → row_lasts (cond t Below (Exact (negsuc n))) y ≡ false
    go true = refl
    go false = refl

row_begins_at : (z : ℤ) (y : ℕ) → y < 9223372036854775808 → row_begins (row_at z) y ≡ begins_by (at z) y
row_begins_at (pos n) y h = go (ltb 9223372036854775807 n) (ltb→lt 9223372036854775807 n)
  where
    beyond : 9223372036854775807 < n → y < n
    beyond k = omega arith

    go : (t : Bool) → (T t → 9223372036854775807 < n) → row_begins (cond t Above (Exact (pos n))) y ≡ leb n y
    go true f = sym (is_false (leb n y) (lt→nleb n y (beyond (f tt))))
    go false f = refl
row_begins_at (negsuc n) y h = go (ltb 9223372036854775807 n)
  where
    go : (t : Bool) → row_begins (cond t Below (Exact (negsuc n))) y ≡ true
    go true = refl
    go false = refl

abbrev column_at : ℤ → Kind ℕ
column_at z = within (λ (v : ℤ). Exact (nat_abs v)) Below Above (pos 0) (pos 18446744073709551615) z

column_lasts_at : (z : ℤ) (x : ℕ) → column_lasts (column_at z) x ≡ lasts_to 18446744073709551616 (or_zero (at z)) x
column_lasts_at (pos n) x = go (ltb 18446744073709551615 n) (ltb n 0) (ltb→lt 18446744073709551615 n) (nltb→le 18446744073709551615 n) (ltb→lt n 0)
  where
    beyond : 18446744073709551615 < n → 18446744073709551616 ≤ n
    beyond h = omega arith

    inside : n ≤ 18446744073709551615 → n < 18446744073709551616
    inside h = omega arith

    none : n < 0 → ⊥
    none h = omega arith

    go : (t u : Bool) → (T t → 18446744073709551615 < n) → (T (not t) → n ≤ 18446744073709551615) → (T u → n < 0)
        → column_lasts (cond t Above (cond u Below (Exact n))) x ≡ ltb n 18446744073709551616 && leb x n
    go true u f g e = ap (λ (b : Bool). b && leb x n) (sym (is_false (ltb n 18446744073709551616) (le→nltb n 18446744073709551616 (beyond (f tt)))))
    go false true f g e = absurd (none (e tt))
    go false false f g e = ap (λ (b : Bool). b && leb x n) (sym (is_true (ltb n 18446744073709551616) (lt→ltb n 18446744073709551616 (inside (g tt)))))
column_lasts_at (negsuc n) x = refl

column_begins_at : (z : ℤ) (x : ℕ) → x < 18446744073709551616 → column_begins (column_at z) x ≡ begins_by (or_zero (at z)) x
column_begins_at (pos n) x h = go (ltb 18446744073709551615 n) (ltb n 0) (ltb→lt 18446744073709551615 n) (ltb→lt n 0)
  where
    beyond : 18446744073709551615 < n → x < n
    beyond k = omega arith

    none : n < 0 → ⊥
    none k = omega arith

    go : (t u : Bool) → (T t → 18446744073709551615 < n) → (T u → n < 0) → column_begins (cond t Above (cond u Below (Exact n))) x ≡ leb n x
    go true u f e = sym (is_false (leb n x) (lt→nleb n x (beyond (f tt))))
    go false true f e = absurd (none (e tt))
    go false false f e = refl
column_begins_at (negsuc n) x h = refl

-- ---- a whole float

row_lasts_lem : (r : Float) (y : ℕ) → row_lasts (cut_i64 r) y ≡ lasts_to 9223372036854775808 (bound_of r) y
unfolding kind_by bound_of
row_lasts_lem nan y = refl
row_lasts_lem (inf true) y = refl
row_lasts_lem (inf false) y = refl
row_lasts_lem (fin s m e) y = row_lasts_at (cond s (neg_ℤ (pos (m * up e / down e))) (pos (m * up e / down e))) y

row_begins_lem : (r : Float) (y : ℕ) → y < 9223372036854775808 → row_begins (cut_i64 r) y ≡ begins_by (bound_of r) y
unfolding kind_by bound_of
row_begins_lem nan y h = refl
row_begins_lem (inf true) y h = refl
row_begins_lem (inf false) y h = refl
row_begins_lem (fin s m e) y h = row_begins_at (cond s (neg_ℤ (pos (m * up e / down e))) (pos (m * up e / down e))) y h

column_lasts_lem : (r : Float) (x : ℕ) → column_lasts (cut_u64 r) x ≡ lasts_to 18446744073709551616 (or_zero (bound_of r)) x
unfolding kind_by bound_of
column_lasts_lem nan x = refl
column_lasts_lem (inf true) x = refl
column_lasts_lem (inf false) x = refl
column_lasts_lem (fin s m e) x = column_lasts_at (cond s (neg_ℤ (pos (m * up e / down e))) (pos (m * up e / down e))) x

column_begins_lem : (r : Float) (x : ℕ) → x < 18446744073709551616 → column_begins (cut_u64 r) x ≡ begins_by (or_zero (bound_of r)) x
unfolding kind_by bound_of
column_begins_lem nan x h = refl
column_begins_lem (inf true) x h = refl
column_begins_lem (inf false) x h = refl
column_begins_lem (fin s m e) x h = column_begins_at (cond s (neg_ℤ (pos (m * up e / down e))) (pos (m * up e / down e))) x h

-- ---- both ends

module _ (lo hi : Float) (F : T (fits binary32 lo)) (G : T (fits binary32 hi)) where
  rows_same : (y : ℕ) → (row_begins (cut_i64 (round_of binary32 lo)) y && row_lasts (cut_i64 (round_of binary32 hi)) y) ≡ (begins_by (rounded lo) y && lasts_to (2 ^ 63) (rounded hi) y)
  rows_same y =
      let l : row_lasts (cut_i64 (round_of binary32 hi)) y ≡ lasts_to (2 ^ 63) (rounded hi) y = row_lasts_lem (round_of binary32 hi) y ∙ ap (λ (b : Bound). lasts_to 9223372036854775808 b y) (sym (one_r hi G)) in
      joined (row_begins (cut_i64 (round_of binary32 lo)) y) (row_lasts (cut_i64 (round_of binary32 hi)) y) (begins_by (rounded lo) y) (lasts_to (2 ^ 63) (rounded hi) y) l
      (λ t. row_begins_lem (round_of binary32 lo) y (below_limit 9223372036854775808 (rounded hi) y (subst T l t)) ∙ ap (λ (b : Bound). begins_by b y) (sym (one_r lo F)))

  columns_same : (x : ℕ) → (column_begins (cut_u64 (round_of binary32 lo)) x && column_lasts (cut_u64 (round_of binary32 hi)) x) ≡ (begins_by (or_zero (rounded lo)) x && lasts_to (2 ^ 64) (or_zero (rounded hi)) x)
  columns_same x =
      let l : column_lasts (cut_u64 (round_of binary32 hi)) x ≡ lasts_to (2 ^ 64) (or_zero (rounded hi)) x = column_lasts_lem (round_of binary32 hi) x ∙ ap (λ (b : Bound). lasts_to 18446744073709551616 (or_zero b) x) (sym (one_r hi G)) in
      joined (column_begins (cut_u64 (round_of binary32 lo)) x) (column_lasts (cut_u64 (round_of binary32 hi)) x) (begins_by (or_zero (rounded lo)) x) (lasts_to (2 ^ 64) (or_zero (rounded hi)) x) l
      (λ t. column_begins_lem (round_of binary32 lo) x (below_limit 18446744073709551616 (or_zero (rounded hi)) x (subst T l t)) ∙ ap (λ (b : Bound). begins_by (or_zero b) x) (sym (one_r lo F)))

pub rows_by_kind : RowsByKind
unfolding has_row
rows_by_kind s y = rows_same (s.center_y ⊖ s.maximum_distance) (s.center_y ⊕ s.maximum_distance) (sub-fits binary32 s.center_y s.maximum_distance) (add-fits binary32 s.center_y s.maximum_distance) y

pub columns_by_kind : ColumnsByKind
unfolding has_column
columns_by_kind s x = columns_same (s.center_x ⊖ s.maximum_distance) (s.center_x ⊕ s.maximum_distance) (sub-fits binary32 s.center_x s.maximum_distance) (add-fits binary32 s.center_x s.maximum_distance) x

-- Assumes nothing.
