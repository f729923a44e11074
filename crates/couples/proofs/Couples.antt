-- Laws of segments drawn two at a time: a segment added in the range of the columns that it has.
use mathlib.Core.Path.{◌≡◌, refl, ap, ◌∙◌}
use mathlib.Core.Bool.{Bool, true, false, cond}
use mathlib.Core.Logic.{⊎_elim}
use mathlib.Core.List.{List, [], ◌∷◌}
use Prim.Native.Nat.{ℕ, zero, suc, ◌+◌, ◌-◌, ◌≤◌}
use native.Mathlib.Omega.{arith}
use lib.ListN.{length, get_or}
use lib.Ieee.{Float, nan, binary32}
use borrow.Author.Tests.{lt-ltb, le-ltb, lt-leb}
use Rattle.roots.specs.Root.{sqrt_of}
use Rattle.segments.specs.Segment.{segment_at}
use Rattle.segments.specs.Ranges.{has_column}
use Rattle.segments.specs.declared.Segment.{Segment}
use Rattle.segments.specs.declared.Range.{Range}
use Rattle.shade.specs.Edit.{edit, first_cells}
use Rattle.shade.specs.Shade.{sqd, dy2, intensity_at, local_intensity, shade, shaded, shaded_by_intensity, Holds}
use Rattle.shade.proofs.Edits.{lt_or_ge, length_edit, edit_cong}
use Rattle.blocks.proofs.Blocks.{passed}
use Rattle.desks.specs.Desks.{Sight, hidden_in, shown}
use Rattle.columns.specs.Columns.{pixel, between, count, updates, shaded_in_range}
use Rattle.columns.proofs.Columns.{count_between, count_cong, ranged}
use Rattle.cuts.specs.Cuts.{Cuts, shaded_in_range_by}
use Rattle.cuts.proofs.Cuts.{between_past}

-- ---- one segment, shown or hidden, in the range of the columns that it has

count_none : (x0 n : ℕ) → count (λ x. false) x0 n ≡ 0
count_none x0 zero = refl
count_none x0 (suc n) = omega (arith, count_none x0 n)

-- segment i, whether it is hidden, and those of the n columns from x0 on that it has
pub record Placed (s : Sight) (segs : List Float) (x0 n i : ℕ) (b : Bool) (g : Segment) (r : Range) : Type 0 where
  pub hides : b ≡ hidden_in s i
  pub is : g ≡ segment_at segs i
  pub cuts : Cuts r (λ x. cond b false (has_column g x)) x0 n

pub placed : (s : Sight) (segs : List Float) (x0 n i : ℕ) {b : Bool} {g : Segment} {r : Range} → b ≡ hidden_in s i → g ≡ segment_at segs i → Cuts r (λ x. cond b false (has_column g x)) x0 n → Placed s segs x0 n i b g r
placed s segs x0 n i e q h = record { hides = e; is = q; cuts = h }

-- n pixels of a channel of colour c, from column x0 of row y on, with those of the listed segments added that are shown
abbrev shown_channel : ℕ → List Float → Sight → ℕ → ℕ → ℕ → List ℕ → List Float → List Float
shown_channel c segs s y x0 n listed xs = edit (first_cells n (λ k v. pixel c segs y (x0 + k) (shown s listed) v)) xs

module _ {s : Sight} {segs : List Float} {i x0 n : ℕ} {b : Bool} {g : Segment} {r : Range} (P : Placed s segs x0 n i b g r) where
  pub part_counts : r.past - r.first ≡ updates segs x0 n (shown s (i ∷ []))
  part_counts =
      omega (arith, count_between r.first r.past x0 n, P.cuts.begins, P.cuts.ascends, P.cuts.ends, count_cong (between r.first r.past) (λ x. cond b false (has_column g x)) x0 n P.cuts.passes)
      ∙ ap (λ (d : Bool). count (λ x. cond d false (has_column g x)) x0 n) P.hides
      ∙ go (hidden_in s i)
    where
      go : (d : Bool) → count (λ x. cond d false (has_column g x)) x0 n ≡ updates segs x0 n (cond d [] (i ∷ []))
      go true = count_none x0 n
      go false = ap (λ (t : Segment). count (has_column t) x0 n) P.is ∙ omega arith

  module _ (c y : ℕ) where
    cell : (k : ℕ) (v : Float) → shaded_in_range g r y x0 c k v ≡ first_cells n (λ j w. pixel c segs y (x0 + j) (shown s (i ∷ [])) w) k v
    cell k v =
        ⊎_elim
        (λ l. rw (lt-ltb k n l) (ap (λ (t : Bool). cond t (shaded g y (x0 + k) c v) v) (P.cuts.passes k l ∙ ap (λ (d : Bool). cond d false (has_column g (x0 + k))) P.hides) ∙ go (hidden_in s i)))
        (λ l. rw (le-ltb k n l, between_past r.first r.past (x0 + k) (omega (arith, P.cuts.ends))))
        (lt_or_ge k n)
      where
        go : (d : Bool) → cond (cond d false (has_column g (x0 + k))) (shaded g y (x0 + k) c v) v ≡ pixel c segs y (x0 + k) (cond d [] (i ∷ [])) v
        go true = refl
        go false = ap (λ (t : Segment). cond (has_column t (x0 + k)) (shaded t y (x0 + k) c v) v) P.is

    pub range_shown : (xs : List Float) → edit (shaded_in_range g r y x0 c) xs ≡ shown_channel c segs s y x0 n (i ∷ []) xs
    range_shown xs = edit_cong (shaded_in_range g r y x0 c) _ xs (λ k v l. cell k v)

    pub ranged_shown : (xs : List Float) → edit (ranged (λ x v. shaded g y x c v) r.first r.past x0 n) xs ≡ shown_channel c segs s y x0 n (i ∷ []) xs
    ranged_shown xs = edit_cong (ranged (λ x v. shaded g y x c v) r.first r.past x0 n) _ xs (λ k v l. whole k v ∙ cell k v)
      where
        whole : (k : ℕ) (v : Float) → ranged (λ x w. shaded g y x c w) r.first r.past x0 n k v ≡ shaded_in_range g r y x0 c k v
        whole k v = ⊎_elim (λ l. rw (lt-ltb k n l)) (λ l. rw (le-ltb k n l, between_past r.first r.past (x0 + k) (omega (arith, P.cuts.ends)))) (lt_or_ge k n)

-- ---- by the intensities in a range

by_local : (g : Segment) (y x c : ℕ) (v : Float) → shaded_by_intensity g (local_intensity g y x) c v ≡ shaded g y x c v
unfolding shaded_by_intensity shade
by_local g y x c v = refl

-- the three passes over the numbers of a range
pub held : (g : Segment) (y x m : ℕ) (v1 v2 v3 : List Float) → length v1 ≡ 32 → m ≤ 32 → Holds m (λ k. sqd g.center_x (dy2 g.center_y y) (x + k)) v1 → v2 ≡ edit (first_cells m (λ k w. sqrt_of binary32 w)) v1 → Holds m (λ k. intensity_at g (get_or v2 k nan)) v3 → Holds m (λ k. local_intensity g y (x + k)) v3
unfolding Holds
held g y x m v1 v2 v3 e l p q r = λ k h. r k h ∙ ap (intensity_at g) (passed (λ j w. sqrt_of binary32 w) m v1 v2 k (omega (arith, e)) h q ∙ ap (sqrt_of binary32) (p k h))

module _ (g : Segment) (r : Range) (locals : List Float) (x0 c : ℕ) where
  -- a range whose intensities are those of row y
  pub added_shaded : (y : ℕ) (xs : List Float) → Holds (r.past - r.first) (λ k. local_intensity g y (r.first + k)) locals → edit (shaded_in_range_by g r locals x0 c) xs ≡ edit (shaded_in_range g r y x0 c) xs
  unfolding Holds
  added_shaded y xs h = edit_cong (shaded_in_range_by g r locals x0 c) (shaded_in_range g r y x0 c) xs (λ i v l. same i v)
    where
      same : (i : ℕ) (v : Float) → shaded_in_range_by g r locals x0 c i v ≡ shaded_in_range g r y x0 c i v
      same i v =
          ⊎_elim
          (λ m. rw (lt-leb r.first (x0 + i) m))
          (λ m. ⊎_elim
          (λ t. ap (λ (u : Float). cond (between r.first r.past (x0 + i)) u v) (ap (λ (u : Float). shaded_by_intensity g u c v) (h (x0 + i - r.first) (omega arith) ∙ ap (local_intensity g y) (omega arith)) ∙ by_local g y (x0 + i) c v))
          (λ t. rw (between_past r.first r.past (x0 + i) t))
          (lt_or_ge (x0 + i) r.past))
          (lt_or_ge (x0 + i) r.first)

-- two ranges, one after the other
pub added_two : (one two : Segment) (p q : Range) (v w : List Float) (y x0 c : ℕ) (xs ys zs : List Float) → Holds (p.past - p.first) (λ k. local_intensity one y (p.first + k)) v → Holds (q.past - q.first) (λ k. local_intensity two y (q.first + k)) w → ys ≡ edit (shaded_in_range_by one p v x0 c) xs → zs ≡ edit (shaded_in_range_by two q w x0 c) ys → zs ≡ edit (shaded_in_range two q y x0 c) (edit (shaded_in_range one p y x0 c) xs)
added_two one two p q v w y x0 c xs ys zs h k e f =
    f ∙ added_shaded two q w x0 c y ys k ∙ ap (edit (shaded_in_range two q y x0 c)) (e ∙ added_shaded one p v x0 c y xs h)

-- ---- two segments, each shown or hidden, in the ranges of the columns that they have

module _ {s : Sight} {segs : List Float} {x0 n i j : ℕ} {a b : Bool} {one two : Segment} {p q : Range} (P : Placed s segs x0 n i a one p) (Q : Placed s segs x0 n j b two q) where
  pub two_count : p.past - p.first + (q.past - q.first) ≡ updates segs x0 n (shown s (i ∷ [])) + updates segs x0 n (shown s (j ∷ []))
  two_count = omega (arith, part_counts P, part_counts Q)

  pub two_small : p.past - p.first + (q.past - q.first) ≤ n + n
  two_small = omega (arith, P.cuts.begins, P.cuts.ascends, P.cuts.ends, Q.cuts.begins, Q.cuts.ascends, Q.cuts.ends)

  pub two_ranged : (c y : ℕ) (xs ys zs : List Float) → ys ≡ edit (ranged (λ x v. shaded one y x c v) p.first p.past x0 n) xs → zs ≡ edit (ranged (λ x v. shaded two y x c v) q.first q.past x0 n) ys → zs ≡ shown_channel c segs s y x0 n (j ∷ []) (shown_channel c segs s y x0 n (i ∷ []) xs)
  two_ranged c y xs ys zs e f = f ∙ ranged_shown Q c y ys ∙ ap (shown_channel c segs s y x0 n (j ∷ [])) (e ∙ ranged_shown P c y xs)

  pub two_narrow : (c y : ℕ) (xs ys : List Float) → ys ≡ edit (shaded_in_range two q y x0 c) (edit (shaded_in_range one p y x0 c) xs) → ys ≡ shown_channel c segs s y x0 n (j ∷ []) (shown_channel c segs s y x0 n (i ∷ []) xs)
  two_narrow c y xs ys e = e ∙ range_shown Q c y _ ∙ ap (shown_channel c segs s y x0 n (j ∷ [])) (range_shown P c y xs)

-- a part of a channel that has been edited
pub still_within : (f : ℕ → Float → Float) (a b : ℕ) (xs ys : List Float) → ys ≡ edit f xs → a ≤ b + length xs → a ≤ b + length ys
still_within f a b xs ys e h = omega (arith, ap length e, length_edit f xs, h)

pub still_long : (f : ℕ → Float → Float) (n : ℕ) (xs ys : List Float) → ys ≡ edit f xs → n ≤ length xs → n ≤ length ys
still_long f n xs ys e h = omega (arith, ap length e, length_edit f xs, h)

-- Assumes nothing.
