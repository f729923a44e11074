-- Drawing keeps every cell that it does not update, drawn or refused, and so does a whole row in parts; a cell that it updates is counted.
use mathlib.Core.Path.{◌≡◌, refl, sym, ap, ◌∙◌}
use mathlib.Core.Bool.{true, false}
use mathlib.Core.Logic.{⊎_elim}
use mathlib.Core.List.{List, [], ◌∷◌}
use Prim.Native.Nat.{ℕ, zero, suc, ◌+◌, ◌<◌}
use native.Mathlib.Nat.{add-zero, zero-add}
use native.Mathlib.Omega.{arith}
use lib.ListN.{length, get_or, get_or-eq_default}
use lib.Ieee.{Float, nan}
use borrow.Author.Tests.{lt-ltb, le-ltb}
use Rattle.segments.specs.Segment.{segment_at}
use Rattle.segments.specs.Ranges.{has_column}
use Rattle.shade.specs.Edit.{edit, first_cells}
use Rattle.shade.proofs.Edits.{lt_or_ge, length_edit, get_d_edit}
use Rattle.checks.specs.Verdict.{Verdict, Fine, Fault}
use Rattle.checks.proofs.Refusals.{is_false}
use Rattle.draw.specs.Draw.{pixel, updates, Table, Sight, shown_of, judge_draw, Channels, drawn_channel, DrawOutcome, outcome, draw_of}
use Rattle.draw.specs.Keeps.{Updates, SameCell, SameLengths}
use Rattle.draw.specs.Parts.{Wide, Whole}

pixel_kept : (c : ℕ) (segs : List Float) (y x : ℕ) (l : List ℕ) (v : Float) → ((j : ℕ) → j < length l → has_column (segment_at segs (get_or l j 0)) x ≡ false) → pixel c segs y x l v ≡ v
pixel_kept c segs y x [] v h = refl
pixel_kept c segs y x (i ∷ l) v h = rw (h 0 (omega arith)) (pixel_kept c segs y x l v (λ j k. h (suc j) (omega arith)))

edit_kept : (f : ℕ → Float → Float) (xs : List Float) (k : ℕ) → (k < length xs → (v : Float) → f k v ≡ v) → get_or (edit f xs) k nan ≡ get_or xs k nan
edit_kept f xs k h =
    ⊎_elim
    (λ l. get_d_edit f xs k l ∙ h l (get_or xs k nan))
    (λ l. get_or-eq_default (edit f xs) nan (omega (arith, length_edit f xs, l)) ∙ sym (get_or-eq_default xs nan l))
    (lt_or_ge k (length xs))

cell_kept : (f : ℕ → Float → Float) (n : ℕ) (xs : List Float) (k : ℕ) → (k < n → (v : Float) → f k v ≡ v) → get_or (edit (first_cells n f) xs) k nan ≡ get_or xs k nan
cell_kept f n xs k h = edit_kept (first_cells n f) xs k (λ l v. ⊎_elim (λ m. rw (lt-ltb k n m) (h m v)) (λ m. rw (le-ltb k n m)) (lt_or_ge k n))

-- a cell of the part that is not updated
idle_kept : (t : Table) (s : Sight) (y x0 n k : ℕ) → (Updates t s y x0 n k → ⊥) → k < n → (c : ℕ) (v : Float) → pixel c t.segments y (x0 + k) (shown_of t s y) v ≡ v
idle_kept t s y x0 n k idle l c v =
    pixel_kept c t.segments y (x0 + k) (shown_of t s y) v
    (λ j m. is_false (has_column (segment_at t.segments (get_or (shown_of t s y) j 0)) (x0 + k)) (λ e. idle (record { in_part = l; entry = j; in_row_lem = m; has = e })))

module _ (t : Table) (s : Sight) (y x0 n : ℕ) (a : Channels) where
  channel_kept : (k : ℕ) → (Updates t s y x0 n k → ⊥) → (c : ℕ) (xs : List Float) → get_or (drawn_channel c t s y x0 n xs) k nan ≡ get_or xs k nan
  channel_kept k idle c xs = cell_kept (λ j v. pixel c t.segments y (x0 + j) (shown_of t s y) v) n xs k (λ l v. idle_kept t s y x0 n k idle l c v)

  pub keeps_cells : (o : DrawOutcome) → o ≡ draw_of t s y x0 n a → (k : ℕ) → (Updates t s y x0 n k → ⊥) → SameCell k a o.channels
  unfolding draw_of
  keeps_cells o e k idle = go (judge_draw t s y x0 n (length a.r0) (length a.r1) (length a.r2)) (ap (λ (q : DrawOutcome). q.channels) e)
    where
      go : (v : Verdict) → o.channels ≡ (outcome v t s y x0 n a).channels → SameCell k a o.channels
      go (Fault c) q = rw q (record { cell0 = refl; cell1 = refl; cell2 = refl })
      go Fine q = rw q (record { cell0 = channel_kept k idle 0 a.r0; cell1 = channel_kept k idle 1 a.r1; cell2 = channel_kept k idle 2 a.r2 })

  pub keeps_lengths : (o : DrawOutcome) → o ≡ draw_of t s y x0 n a → SameLengths a o.channels
  unfolding draw_of
  keeps_lengths o e = go (judge_draw t s y x0 n (length a.r0) (length a.r1) (length a.r2)) (ap (λ (q : DrawOutcome). q.channels) e)
    where
      go : (v : Verdict) → o.channels ≡ (outcome v t s y x0 n a).channels → SameLengths a o.channels
      go (Fault c) q = rw q (record { length0 = refl; length1 = refl; length2 = refl })
      go Fine q = rw q (record { length0 = length_edit _ a.r0; length1 = length_edit _ a.r1; length2 = length_edit _ a.r2 })

-- ---- a row drawn whole

pub whole_keeps : {t : Table} {s : Sight} {y W : ℕ} {a w : Channels} {sum : ℕ} → Wide W a → Whole t s y W a sum w → (x : ℕ) → (Updates t s y 0 W x → ⊥) → SameCell x a w
whole_keeps {t} {s} {y} {W} {a} {w} wide z x idle = record {
  cell0 = ap (λ (l : List Float). get_or l x nan) z.channel0 ∙ kept 0 a.r0 wide.w0;
  cell1 = ap (λ (l : List Float). get_or l x nan) z.channel1 ∙ kept 1 a.r1 wide.w1;
  cell2 = ap (λ (l : List Float). get_or l x nan) z.channel2 ∙ kept 2 a.r2 wide.w2;
}
  where
    kept : (c : ℕ) (xs : List Float) → length xs ≡ W → get_or (edit (λ k v. pixel c t.segments y k (shown_of t s y) v) xs) x nan ≡ get_or xs x nan
    kept c xs e =
        edit_kept (λ k v. pixel c t.segments y k (shown_of t s y) v) xs x
        (λ l v. rw (zero-add x) at (idle_kept t s y 0 W x idle (omega (arith, l, e)) c v))

-- ---- one cell drawn alone counts its updates

-- a listed segment that has the column
counts_one : (segs : List Float) (x : ℕ) (l : List ℕ) (j : ℕ) → j < length l → has_column (segment_at segs (get_or l j 0)) x ≡ true → 0 < updates segs x 1 l
counts_one segs x [] j h e = absurd (omega (arith, h))
counts_one segs x (i ∷ l) zero h e = rw (add-zero x, e) (omega arith)
counts_one segs x (i ∷ l) (suc j) h e = omega (arith, counts_one segs x l j (omega (arith, h)) e)

pub updated_counts : (t : Table) (s : Sight) (y x W : ℕ) → Updates t s y 0 W x → 0 < updates t.segments x 1 (shown_of t s y)
updated_counts t s y x W u = counts_one t.segments x (shown_of t s y) u.entry u.in_row_lem (rw (zero-add x) at u.has)

-- Assumes nothing.
