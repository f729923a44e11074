-- Laws of a range cut to a part of a row, and of a segment added in it.
use mathlib.Core.Path.{◌≡◌, refl, sym, ap, ◌∙◌}
use mathlib.Core.Bool.{Bool, true, false, cond, ◌&&◌}
use mathlib.Core.Logic.{⊎_elim}
use mathlib.Core.List.{List, ◌++◌}
use Prim.Native.Nat.{ℕ, ◌+◌, ◌-◌, ◌^◌, ◌<◌, ◌≤◌, min, max}
use native.Mathlib.Omega.{arith}
use lib.ListN.{length, get_or, take, drop}
use lib.Dec.{leb}
use lib.Ieee.{Float, nan}
use borrow.Author.Tests.{lt-ltb, le-ltb, le-leb, lt-leb}
use Rattle.segments.specs.Ranges.{has_column, columns_of}
use Rattle.segments.specs.declared.Segment.{Segment}
use Rattle.segments.specs.declared.Range.{Range}
use Rattle.shade.specs.Edit.{edit, inside}
use Rattle.shade.specs.Shade.{shaded_by_intensity}
use Rattle.shade.proofs.Edits.{lt_or_ge, edit_cong, edit_part}
use Rattle.columns.specs.Columns.{between}
use Rattle.columns.proofs.Columns.{has_columns}
use Rattle.cuts.specs.Cuts.{Cuts, shaded_in_range_by}

-- ---- which columns lie in a range

off : (b : Bool) → (b && false) ≡ false
off true = refl
off false = refl

pub between_past : (first past x : ℕ) → past ≤ x → between first past x ≡ false
between_past first past x l = rw (le-ltb x past l) (off (leb first x))

between_none : (first past x : ℕ) → past ≤ first → between first past x ≡ false
between_none first past x l = ⊎_elim (λ m. rw (lt-leb first x m)) (λ m. between_past first past x (omega arith)) (lt_or_ge x first)

-- a range cut to a part
cut_between : (first past a e x0 n k : ℕ) → a ≡ max x0 first → e ≡ min (x0 + n) past → k < n → between a e (x0 + k) ≡ between first past (x0 + k)
cut_between first past a e x0 n k p q h =
    ⊎_elim
    (λ l. rw (lt-leb first (x0 + k) l, lt-leb a (x0 + k) (omega arith)))
    (λ l. rw (le-leb first (x0 + k) l, le-leb a (x0 + k) (omega arith)) (⊎_elim
    (λ m. rw (lt-ltb (x0 + k) past m, lt-ltb (x0 + k) e (omega arith)))
    (λ m. rw (le-ltb (x0 + k) past m, le-ltb (x0 + k) e (omega arith)))
    (lt_or_ge (x0 + k) past)))
    (lt_or_ge (x0 + k) first)

-- none of the columns
pub cuts_none : (r : Range) (p : ℕ → Bool) (x0 n : ℕ) → r.first ≡ x0 → r.past ≡ x0 → ((k : ℕ) → k < n → p (x0 + k) ≡ false) → Cuts r p x0 n
cuts_none r p x0 n a e h = record { begins = omega arith; ascends = omega arith; ends = omega arith; passes = λ k l. between_none r.first r.past (x0 + k) (omega arith) ∙ sym (h k l) }

module _ (s : Segment) (columns : Range) (a e x0 n : ℕ) (q : columns ≡ columns_of s) (h : x0 + n ≤ 2 ^ 23) (p : a ≡ max x0 columns.first) (t : e ≡ min (x0 + n) columns.past) where
  -- those that a segment has, cut to a part
  pub has_cut : (k : ℕ) → k < n → between a e (x0 + k) ≡ has_column s (x0 + k)
  has_cut k l = cut_between columns.first columns.past a e x0 n k p t l ∙ has_columns s columns (x0 + k) q (omega arith)

  pub has_none : e ≤ a → (k : ℕ) → k < n → has_column s (x0 + k) ≡ false
  has_none m k l = sym (has_cut k l) ∙ between_none a e (x0 + k) m

-- ---- by the intensities in a range

module _ (g : Segment) (r : Range) (locals : List Float) (x0 c : ℕ) where
  -- the part of a channel that holds the range, come back
  pub added_part : (xs ys : List Float) → x0 ≤ r.first → r.first ≤ r.past → r.past ≤ x0 + length xs → ys ≡ edit (λ k v. shaded_by_intensity g (get_or locals k nan) c v) (take (r.past - x0 - (r.first - x0)) (drop (r.first - x0) xs)) → take (r.first - x0) xs ++ (ys ++ drop (r.past - x0 - (r.first - x0)) (drop (r.first - x0) xs)) ≡ edit (shaded_in_range_by g r locals x0 c) xs
  added_part xs ys h k l e =
      ap (λ (m : List Float). take a xs ++ (m ++ drop w (drop a xs))) (e ∙ edit_cong (λ i v. shaded_by_intensity g (get_or locals i nan) c v) (λ i v. f (a + i) v) (take w (drop a xs)) (λ i v m. ap (λ (j : ℕ). shaded_by_intensity g (get_or locals j nan) c v) (omega arith)))
      ∙ edit_part f xs a w (omega arith)
      ∙ edit_cong (λ i v. cond (inside a w i) (f i v) v) (shaded_in_range_by g r locals x0 c) xs (λ i v m. same i v)
    where
      a : ℕ
      a = r.first - x0

      w : ℕ
      w = r.past - x0 - (r.first - x0)

      f : ℕ → Float → Float
      f i v = shaded_by_intensity g (get_or locals (i - a) nan) c v

      same : (i : ℕ) (v : Float) → cond (inside a w i) (f i v) v ≡ shaded_in_range_by g r locals x0 c i v
      same i v =
          ⊎_elim
          (λ m. rw (lt-leb a i m, lt-leb r.first (x0 + i) (omega arith)))
          (λ m. rw (le-leb a i m, le-leb r.first (x0 + i) (omega arith)) (⊎_elim
          (λ t. rw (lt-ltb i (a + w) t, lt-ltb (x0 + i) r.past (omega arith)) (ap (λ (j : ℕ). shaded_by_intensity g (get_or locals j nan) c v) (omega arith)))
          (λ t. rw (le-ltb i (a + w) t, le-ltb (x0 + i) r.past (omega arith)))
          (lt_or_ge i (a + w))))
          (lt_or_ge i a)

-- Assumes nothing.
