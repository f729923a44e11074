-- Other rows are not looked at, nor the other desk's bits: two tables that are alike in a row, by sights that agree, draw it alike. Where nothing is hidden the row is drawn whole.
use mathlib.Core.Path.{◌≡◌, refl, sym, ap, ◌∙◌}
use mathlib.Core.Bool.{Bool, cond}
use mathlib.Core.List.{List, [], ◌∷◌}
use Prim.Native.Nat.{ℕ, suc, ◌+◌, ◌<◌}
use native.Mathlib.Omega.{arith}
use lib.Dec.{ltb}
use lib.ListN.{length, get_or}
use lib.Ieee.{Float}
use Rattle.segments.specs.declared.Segment.{Segment}
use Rattle.segments.specs.Segment.{segment_at}
use Rattle.segments.specs.Ranges.{has_column}
use Rattle.shade.specs.Edit.{first_cells}
use Rattle.shade.specs.Shade.{shaded}
use Rattle.shade.proofs.Edits.{edit_cong}
use Rattle.checks.specs.Verdict.{Verdict, Fine, Fault}
use Rattle.desks.specs.Desks.{Sight, desk_good}
use Rattle.desks.specs.Agree.{Agree, NothingHidden}
use Rattle.desks.proofs.Shown.{shown_listed}
use Rattle.codes.specs.declared.Code.{Code}
use Rattle.checks.specs.Tables.{Table, row_of, shown_of}
use Rattle.checks.specs.Checks.{span_good, or_fault, judge_row, judge_draw}
use Rattle.checks.specs.Alike.{AlikeFor}
use Rattle.checks.proofs.Checks.{RowFactsFor, judged_fine}
use Rattle.checks.proofs.Alike as checked
use Rattle.draw.specs.Draw.{pixel, count, updates, Channels, drawn_channel, outcome, unhidden, draw_of}

-- ---- lists of entries whose segments are the same in two buffers

module _ (A B : List Float) where
  pixel_same : (c y x : ℕ) (l : List ℕ) (v : Float) → ((j : ℕ) → j < length l → segment_at A (get_or l j 0) ≡ segment_at B (get_or l j 0)) → pixel c A y x l v ≡ pixel c B y x l v
  pixel_same c y x [] v h = refl
  pixel_same c y x (i ∷ l) v h =
      ap (λ (s : Segment). pixel c A y x l (cond (has_column s x) (shaded s y x c v) v)) (h 0 (omega arith)) ∙ pixel_same c y x l _ (λ j k. h (suc j) (omega arith))

  updates_same : (x n : ℕ) (l : List ℕ) → ((j : ℕ) → j < length l → segment_at A (get_or l j 0) ≡ segment_at B (get_or l j 0)) → updates A x n l ≡ updates B x n l
  updates_same x n [] h = refl
  updates_same x n (i ∷ l) h =
      ap (λ (s : Segment). count (has_column s) x n + updates A x n l) (h 0 (omega arith))
      ∙ ap (λ (m : ℕ). count (has_column (segment_at B i)) x n + m) (updates_same x n l (λ j k. h (suc j) (omega arith)))

-- ---- two tables alike in a row, by sights that agree

module _ {y : ℕ} {t u : Table} {s r : Sight} (k : AlikeFor y t s u r) where
  alike_judged : (x0 n l0 l1 l2 : ℕ) → judge_draw t s y x0 n l0 l1 l2 ≡ judge_draw u r y x0 n l0 l1 l2
  unfolding judge_draw
  alike_judged x0 n l0 l1 l2 =
      ap (λ (v : Verdict). or_fault (desk_good s) Code.Desk v) (checked.alike_judged k (span_good x0 n l0 l1 l2))
      ∙ ap (λ (b : Bool). or_fault b Code.Desk (judge_row u r y (span_good x0 n l0 l1 l2))) (checked.alike_desk k)

  -- where the row passes its checks
  module _ (f : RowFactsFor t s y) where
    -- its shown entries name the same segments
    shown_named : (j : ℕ) → j < length (shown_of t s y) → segment_at t.segments (get_or (shown_of t s y) j 0) ≡ segment_at u.segments (get_or (shown_of t s y) j 0)
    shown_named j l =
        let q = shown_listed s (row_of t y) j l in
        ap (segment_at t.segments) (sym q.is_it) ∙ checked.alike_named k.tables f.table q.entry q.in_list ∙ ap (segment_at u.segments) q.is_it

    pub alike_pixel : (c x : ℕ) (v : Float) → pixel c t.segments y x (shown_of t s y) v ≡ pixel c u.segments y x (shown_of u r y) v
    alike_pixel c x v = pixel_same t.segments u.segments c y x (shown_of t s y) v shown_named ∙ ap (λ (l : List ℕ). pixel c u.segments y x l v) (checked.alike_shown k f)

    pub alike_updates : (x0 n : ℕ) → updates t.segments x0 n (shown_of t s y) ≡ updates u.segments x0 n (shown_of u r y)
    alike_updates x0 n = updates_same t.segments u.segments x0 n (shown_of t s y) shown_named ∙ ap (updates u.segments x0 n) (checked.alike_shown k f)

    alike_channel : (c x0 n : ℕ) (xs : List Float) → drawn_channel c t s y x0 n xs ≡ drawn_channel c u r y x0 n xs
    alike_channel c x0 n xs =
        edit_cong (first_cells n (λ i v. pixel c t.segments y (x0 + i) (shown_of t s y) v)) (first_cells n (λ i v. pixel c u.segments y (x0 + i) (shown_of u r y) v)) xs
        (λ i v l. ap (λ (z : Float). cond (ltb i n) z v) (alike_pixel c (x0 + i) v))

  -- a row of two tables that are alike in it is drawn alike
  pub drawn_alike : (x0 n : ℕ) (a : Channels) → draw_of t s y x0 n a ≡ draw_of u r y x0 n a
  unfolding draw_of
  drawn_alike x0 n a =
      go (judge_draw t s y x0 n (length a.r0) (length a.r1) (length a.r2)) refl
      ∙ ap (λ (v : Verdict). outcome v u r y x0 n a) (alike_judged x0 n (length a.r0) (length a.r1) (length a.r2))
    where
      go : (v : Verdict) → judge_draw t s y x0 n (length a.r0) (length a.r1) (length a.r2) ≡ v → outcome v t s y x0 n a ≡ outcome v u r y x0 n a
      go (Fault c) e = refl
      go Fine e =
          let f = (judged_fine t s y x0 n (length a.r0) (length a.r1) (length a.r2) e).row in
          rw (alike_updates f x0 n, alike_channel f 0 x0 n a.r0, alike_channel f 1 x0 n a.r1, alike_channel f 2 x0 n a.r2)

-- the other desk's bits change nothing of a desk's drawing
pub desks_apart : (t : Table) (s r : Sight) (y x0 n : ℕ) (a : Channels) → Agree s r → s.owners ≡ r.owners → draw_of t s y x0 n a ≡ draw_of t r y x0 n a
desks_apart t s r y x0 n a g e = drawn_alike (checked.agree_alike t s r y g e) x0 n a

-- ---- nothing hidden

-- what `draw` answers and leaves of a table alone, with no desk: every listed segment is drawn
pub whole_row : (t : Table) (s : Sight) (y x0 n : ℕ) (a : Channels) → NothingHidden s → draw_of t s y x0 n a ≡ unhidden (judge_draw t s y x0 n (length a.r0) (length a.r1) (length a.r2)) t y x0 n a
unfolding draw_of
whole_row t s y x0 n a g = go (judge_draw t s y x0 n (length a.r0) (length a.r1) (length a.r2)) refl
  where
    go : (v : Verdict) → judge_draw t s y x0 n (length a.r0) (length a.r1) (length a.r2) ≡ v → outcome v t s y x0 n a ≡ unhidden v t y x0 n a
    go (Fault c) e = refl
    go Fine e = let q = checked.shown_whole t s y g (judged_fine t s y x0 n (length a.r0) (length a.r1) (length a.r2) e).row in rw q

-- Assumes nothing.
