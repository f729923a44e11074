-- Laws of columns: a range of columns cut to a part, counted and drawn, and a segment's range against the columns that it has.
use mathlib.Core.Path.{◌≡◌, refl, sym, ap, ◌∙◌}
use mathlib.Core.Bool.{Bool, true, false, cond, ◌&&◌}
use mathlib.Core.Logic.{⊎_elim}
use mathlib.Core.List.{List, ◌++◌}
use Prim.Native.Nat.{ℕ, zero, suc, ◌+◌, ◌-◌, ◌^◌, ◌<◌, ◌≤◌, min, max}
use native.Mathlib.Omega.{arith}
use lib.ListN.{length, get_or, take, drop}
use lib.Dec.{leb}
use lib.Ieee.{Float, nan}
use borrow.Author.Tests.{lt-ltb, le-ltb, le-leb, lt-leb}
use Rattle.segments.specs.Segment.{segment_at}
use Rattle.segments.specs.Ranges.{has_column, columns_of}
use Rattle.segments.specs.declared.Segment.{Segment}
use Rattle.segments.specs.declared.Range.{Range}
use Rattle.segments.proofs.Ranges.{has_column_lem}
use Rattle.shade.specs.Edit.{edit, first_cells, inside}
use Rattle.shade.specs.Shade.{shaded}
use Rattle.shade.proofs.Edits.{lt_or_ge, is_edit, edit_cong, edit_part}
use Rattle.columns.specs.Columns.{shaded_in_column, between, count}

-- how many of the n columns from x0 on lie from `first` up to `past`
pub count_between : (first past x0 n : ℕ) → count (between first past) x0 n ≡ min (x0 + n) past - max x0 first
count_between first past x0 zero = omega arith
count_between first past x0 (suc n) =
    ⊎_elim
    (λ l. rw (lt-leb first (x0 + n) l) (rw (count_between first past x0 n) (omega arith)))
    (λ l. ⊎_elim
    (λ m. rw (le-leb first (x0 + n) l, lt-ltb (x0 + n) past m) (rw (count_between first past x0 n) (omega arith)))
    (λ m. rw (le-leb first (x0 + n) l, le-ltb (x0 + n) past m) (rw (count_between first past x0 n) (omega arith)))
    (lt_or_ge (x0 + n) past))
    (lt_or_ge (x0 + n) first)

-- f at those of the n columns from x0 on that lie from `first` up to `past`
abbrev pub ranged : (ℕ → Float → Float) → ℕ → ℕ → ℕ → ℕ → ℕ → Float → Float
ranged f first past x0 n = first_cells n (λ k v. cond (between first past (x0 + k)) (f (x0 + k) v) v)

-- where there are none, nothing changes
pub ranged_none : (f : ℕ → Float → Float) (xs : List Float) (first past x0 n : ℕ) → min (x0 + n) past ≤ max x0 first → xs ≡ edit (ranged f first past x0 n) xs
ranged_none f xs first past x0 n h = is_edit (ranged f first past x0 n) xs xs refl (λ i k. sym (kept i (get_or xs i nan)))
  where
    kept : (i : ℕ) (v : Float) → ranged f first past x0 n i v ≡ v
    kept i v =
        ⊎_elim
        (λ l. rw (lt-ltb i n l) (⊎_elim (λ m. rw (lt-leb first (x0 + i) (omega arith))) (λ m. rw (le-ltb (x0 + i) past m) (off (leb first (x0 + i)))) (lt_or_ge (x0 + i) past)))
        (λ l. rw (le-ltb i n l))
        (lt_or_ge i n)
      where
        off : (b : Bool) → cond (b && false) (f (x0 + i) v) v ≡ v
        off true = refl
        off false = refl

-- the whole, once the part that holds them has come back edited
pub ranged_part : (f : ℕ → Float → Float) (xs ys : List Float) (first past x0 n from to : ℕ) → from ≡ max x0 first → to ≡ min (x0 + n) past → from < to → n ≤ length xs → ys ≡ edit (λ k v. f (from + k) v) (take (to - x0 - (from - x0)) (drop (from - x0) xs)) → take (from - x0) xs ++ (ys ++ drop (to - x0 - (from - x0)) (drop (from - x0) xs)) ≡ edit (ranged f first past x0 n) xs
ranged_part f xs ys first past x0 n from to p q l h e =
    ap (λ (m : List Float). take a xs ++ (m ++ drop w (drop a xs))) (e ∙ edit_cong (λ k v. f (from + k) v) (λ k v. f (x0 + (a + k)) v) (take w (drop a xs)) (λ i v k. ap (λ (m : ℕ). f m v) (omega arith)))
    ∙ edit_part (λ k v. f (x0 + k) v) xs a w (omega arith)
    ∙ edit_cong (λ k v. cond (inside a w k) (f (x0 + k) v) v) (ranged f first past x0 n) xs (λ i v k. same i v)
  where
    a : ℕ
    a = from - x0

    w : ℕ
    w = to - x0 - (from - x0)

    same : (i : ℕ) (v : Float) → cond (inside a w i) (f (x0 + i) v) v ≡ ranged f first past x0 n i v
    same i v =
        ⊎_elim
        (λ m. rw (lt-ltb i n m) (⊎_elim
        (λ r. rw (lt-leb first (x0 + i) r, lt-leb a i (omega arith)))
        (λ r. rw (le-leb first (x0 + i) r, le-leb a i (omega arith)) (⊎_elim (λ t. rw (lt-ltb (x0 + i) past t, lt-ltb i (a + w) (omega arith))) (λ t. rw (le-ltb (x0 + i) past t, le-ltb i (a + w) (omega arith))) (lt_or_ge (x0 + i) past)))
        (lt_or_ge (x0 + i) first)))
        (λ m. rw (le-ltb i n m, le-leb a i (omega arith), le-ltb i (a + w) (omega arith)))
        (lt_or_ge i n)

-- ---- the columns of a segment

pub has_columns : (s : Segment) (r : Range) (x : ℕ) → r ≡ columns_of s → x < 2 ^ 24 → between r.first r.past x ≡ has_column s x
unfolding columns_of
has_columns s r x e h = ap (λ (q : Range). between q.first q.past x) e ∙ sym (has_column_lem s x h)

pub count_cong : (p q : ℕ → Bool) (x0 n : ℕ) → ((k : ℕ) → k < n → p (x0 + k) ≡ q (x0 + k)) → count p x0 n ≡ count q x0 n
count_cong p q x0 zero h = refl
count_cong p q x0 (suc n) h = rw (h n (omega arith)) (ap (λ (m : ℕ). cond (q (x0 + n)) 1 0 + m) (count_cong p q x0 n (λ k l. h k (omega arith))))

pub count_columns : (segs : List Float) (i x0 n k : ℕ) (s : Segment) (r : Range) → s ≡ segment_at segs i → r ≡ columns_of s → x0 + n ≤ 2 ^ 23 → k ≡ count (between r.first r.past) x0 n → k ≡ count (has_column (segment_at segs i)) x0 n
count_columns segs i x0 n k s r p q h e =
    e ∙ count_cong (between r.first r.past) (has_column (segment_at segs i)) x0 n (λ j l. has_columns s r (x0 + j) q (omega arith) ∙ ap (λ (t : Segment). has_column t (x0 + j)) p)

pub draw_columns : (c : ℕ) (segs : List Float) (i y x0 n : ℕ) (s : Segment) (r : Range) (xs ys : List Float) → s ≡ segment_at segs i → r ≡ columns_of s → x0 + n ≤ 2 ^ 23 → ys ≡ edit (ranged (λ x v. shaded s y x c v) r.first r.past x0 n) xs → ys ≡ edit (first_cells n (λ k v. shaded_in_column c segs y (x0 + k) v i)) xs
draw_columns c segs i y x0 n s r xs ys p q h e = e ∙ edit_cong _ (first_cells n (λ k v. shaded_in_column c segs y (x0 + k) v i)) xs (λ j v l. ⊎_elim (λ m. rw (lt-ltb j n m) (same j v m)) (λ m. rw (le-ltb j n m)) (lt_or_ge j n))
  where
    same : (j : ℕ) (v : Float) → j < n → cond (between r.first r.past (x0 + j)) (shaded s y (x0 + j) c v) v ≡ shaded_in_column c segs y (x0 + j) v i
    same j v m = rw (has_columns s r (x0 + j) q (omega arith)) (ap (λ (t : Segment). cond (has_column t (x0 + j)) (shaded t y (x0 + j) c v) v) p)

-- Assumes nothing.
