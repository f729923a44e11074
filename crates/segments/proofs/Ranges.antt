-- Ranges of rows and columns: what a half-open range has is what the segment has, by the kind of each end.
use mathlib.Core.Path.{◌≡◌, refl, sym, ap, ◌∙◌}
use mathlib.Core.Bool.{Bool, true, false, ◌&&◌}
use Prim.Native.Nat.{ℕ, suc, ◌^◌, ◌≤◌, ◌<◌, min}
use native.Mathlib.Omega.{arith}
use lib.IntN.{ℤ, pos, negsuc}
use lib.Dec.{T, leb, ltb, leb→le, le→leb, leb-zero, leb-suc-zero}
use lib.Arith.{lt→nleb}
use lib.Ieee.Bits.{is_false}
use Rattle.numbers.specs.Arith.{◌⊕◌, ◌⊖◌}
use Rattle.kinds.specs.declared.Kind.{Kind}
use Rattle.kinds.specs.declared.Kind.TheVariants.{Exact, NotNumber, Below, Above}
use Rattle.ends.specs.Ends.{row_first_by, row_past_by, column_first_by, column_past_by, row_first_of, row_past_of, column_first_of, column_past_of}
use Rattle.segments.specs.Ranges.{row_end, column_end, row_begins, row_lasts, column_begins, column_lasts, has_row, has_column, row_first, row_past, column_first, column_past}
use Rattle.segments.specs.declared.Segment.{Segment}

-- ---- tests on numbers below 2 ^ 24

same_test : (a b c d : ℕ) → (a ≤ b → c ≤ d) → (c ≤ d → a ≤ b) → leb a b ≡ leb c d
same_test a b c d f g = go (leb a b) (leb c d) (λ (t : T (leb a b)). le→leb c d (f (leb→le a b t))) (λ (t : T (leb c d)). le→leb a b (g (leb→le c d t)))
  where
    go : (p q : Bool) → (T p → T q) → (T q → T p) → p ≡ q
    go true true u v = refl
    go true false u v = absurd (u tt)
    go false true u v = absurd (v tt)
    go false false u v = refl

begins_cut : (n y : ℕ) → y < 2 ^ 24 → leb n y ≡ leb (min n (2 ^ 24)) y
begins_cut n y h = same_test n y (min n 16777216) y (λ (k : n ≤ y). omega arith) (λ (k : min n 16777216 ≤ y). omega arith)

lasts_cut : (n y : ℕ) → y < 2 ^ 24 → leb y n ≡ ltb y (suc (min n (2 ^ 24)))
lasts_cut n y h = same_test y n (suc y) (suc (min n 16777216)) (λ (k : y ≤ n). omega arith) (λ (k : suc y ≤ suc (min n 16777216)). omega arith)

past_all : (y : ℕ) → y < 2 ^ 24 → false ≡ leb 16777216 y
past_all y h = sym (is_false (leb 16777216 y) (lt→nleb 16777216 y h))

-- ---- rows

row_begins_lem : (k : Kind ℤ) (y : ℕ) → y < 2 ^ 24 → row_begins k y ≡ leb (row_first_by k) y
row_begins_lem (Exact (pos n)) y h = begins_cut n y h
row_begins_lem (Exact (negsuc n)) y h = sym (leb-zero y)
row_begins_lem NotNumber y h = refl
row_begins_lem Below y h = sym (leb-zero y)
row_begins_lem Above y h = past_all y h

row_lasts_lem : (k : Kind ℤ) (y : ℕ) → y < 2 ^ 24 → row_lasts k y ≡ ltb y (row_past_by k)
row_lasts_lem (Exact (pos n)) y h = lasts_cut n y h
row_lasts_lem (Exact (negsuc n)) y h = sym (leb-suc-zero y)
row_lasts_lem NotNumber y h = lasts_cut 0 y h
row_lasts_lem Below y h = sym (leb-suc-zero y)
row_lasts_lem Above y h = sym (leb-suc-zero y)

-- ---- columns

column_begins_lem : (k : Kind ℕ) (x : ℕ) → x < 2 ^ 24 → column_begins k x ≡ leb (column_first_by k) x
column_begins_lem (Exact n) x h = begins_cut n x h
column_begins_lem NotNumber x h = refl
column_begins_lem Below x h = refl
column_begins_lem Above x h = past_all x h

column_lasts_lem : (k : Kind ℕ) (x : ℕ) → x < 2 ^ 24 → column_lasts k x ≡ ltb x (column_past_by k)
column_lasts_lem (Exact n) x h = lasts_cut n x h
column_lasts_lem NotNumber x h = lasts_cut 0 x h
column_lasts_lem Below x h = lasts_cut 0 x h
column_lasts_lem Above x h = sym (leb-suc-zero x)

-- ---- a segment

both : (a b c d : Bool) → a ≡ c → b ≡ d → (a && b) ≡ (c && d)
both a b c d p q = ap (λ (t : Bool). t && b) p ∙ ap (λ (t : Bool). c && t) q

pub has_row_lem : (s : Segment) (y : ℕ) → y < 2 ^ 24 → has_row s y ≡ leb (row_first s) y && ltb y (row_past s)
unfolding has_row row_first_of row_past_of
has_row_lem s y h = both _ _ _ _ (row_begins_lem (row_end (s.center_y ⊖ s.maximum_distance)) y h) (row_lasts_lem (row_end (s.center_y ⊕ s.maximum_distance)) y h)

pub has_column_lem : (s : Segment) (x : ℕ) → x < 2 ^ 24 → has_column s x ≡ leb (column_first s) x && ltb x (column_past s)
unfolding has_column column_first_of column_past_of
has_column_lem s x h = both _ _ _ _ (column_begins_lem (column_end (s.center_x ⊖ s.maximum_distance)) x h) (column_lasts_lem (column_end (s.center_x ⊕ s.maximum_distance)) x h)

-- Assumes nothing.
