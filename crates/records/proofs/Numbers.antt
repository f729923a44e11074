-- Both sides of the count, and a row of one number.
use mathlib.Core.Path.{◌≡◌, refl, sym, ap, ◌∙◌}
use mathlib.Core.Bool.{Bool, true, false, cond}
use mathlib.Core.Logic.{⊎_elim}
use mathlib.Core.List.{List, [], ◌∷◌}
use Prim.Native.Nat.{ℕ, ◌+◌, ◌^◌, ◌<◌}
use native.Mathlib.Nat.{add-zero}
use native.Mathlib.Omega.{arith}
use lib.ListN.{length, get_or}
use lib.Ieee.{Float}
use borrow.Author.Tests.{lt-ltb, le-leb}
use Rattle.segments.specs.Segment.{segment_at}
use Rattle.segments.specs.Ranges.{has_column}
use Rattle.shade.specs.Edit.{edit, first_cells}
use Rattle.checks.specs.Verdict.{Verdict, Fine}
use Rattle.desks.specs.Desks.{sight_of, hidden_in, shown, all_owned}
use Rattle.desks.proofs.Shown.{shown_listed, owned_first}
use Rattle.draw.specs.DrawAnswer.{Done}
use Rattle.draw.specs.Draw.{pixel, count, updates, drawn_channel, Table, Sight, row_of, shown_of, span_good, judge_draw, Channels, leaves, draw_of}
use Rattle.checks.proofs.Checks.{RowFacts, Passed, judged_fine}
use Rattle.checks.proofs.Refusals.{span_fits, below_each}
use Rattle.singles.proofs.Singles.{hidden_kept, hidden_counts}
use Rattle.draw.proofs.Checks.{answer_done}
use Rattle.flat_records.proofs.Known.{known_here, not_counted, not_fitting}
use Rattle.alone.proofs.Alone.{not_known, drawn_alone}
use Rattle.records.specs.Records.{is_known, drawn_channel_alone, draw_alone, judge_for, outcome_for, draw_for}
use Rattle.records.specs.Numbers.{KnownIsDrawn, UnknownIsRefused, RowOfOneIsItsNumber, RowOfOneIsItsRecord}

pub known_is_drawn : KnownIsDrawn
known_is_drawn xs c i y x0 n a l f = ap (λ (known : Bool). draw_alone known (segment_at xs i) y x0 n a) (known_here xs c i l f)

pub unknown_is_refused : UnknownIsRefused
unknown_is_refused xs c i y x0 n a h = sym (not_known (is_known xs c i) (segment_at xs i) y x0 n a (⊎_elim (not_counted xs c i) (not_fitting xs c i) h))

-- ---- a row of one number

module _ (t : Table) (s : Sight) (i y x0 n : ℕ) (row : shown_of t s y ≡ i ∷ []) where
  -- it is an entry of the row, which passed its checks
  named : RowFacts t y → i < t.segment_count
  named f =
      let l : 0 < length (shown_of t s y) = rw row (omega arith) in
      let q = shown_listed s (row_of t y) 0 l in
      rw (q.is_it ∙ ap (λ (m : List ℕ). get_or m 0 0) row) at (below_each t.segment_count (row_of t y) f.all_named q.entry q.in_list)

  updates_of_one : updates t.segments x0 n (shown_of t s y) ≡ count (has_column (segment_at t.segments i)) x0 n
  updates_of_one = ap (updates t.segments x0 n) row ∙ add-zero (count (has_column (segment_at t.segments i)) x0 n)

  drawn_one : (c : ℕ) (xs : List Float) → drawn_channel c t s y x0 n xs ≡ drawn_channel_alone c (segment_at t.segments i) y x0 n xs
  drawn_one c xs = ap (λ (listed : List ℕ). edit (first_cells n (λ k v. pixel c t.segments y (x0 + k) listed v)) xs) row

module _ (t : Table) (s : Sight) (i y x0 n : ℕ) (a : Channels) (fine : judge_draw t s y x0 n (length a.r0) (length a.r1) (length a.r2) ≡ Fine) where
  passed : Passed t s y x0 n (length a.r0) (length a.r1) (length a.r2)
  passed = judged_fine t s y x0 n (length a.r0) (length a.r1) (length a.r2) fine

  low : y < 2 ^ 23
  low = omega (arith, passed.in_image, passed.lent.counts.table.low)

  spanned : span_good x0 n (length a.r0) (length a.r1) (length a.r2) ≡ true
  spanned = span_fits x0 n (length a.r0) (length a.r1) (length a.r2) passed.span

  -- the segment drawn alone, known by any name
  one_drawn : (known : Bool) → known ≡ true → shown_of t s y ≡ i ∷ [] → draw_of t s y x0 n a ≡ draw_alone known (segment_at t.segments i) y x0 n a
  one_drawn known e row =
      sym (answer_done t s y x0 n a fine refl refl refl refl)
      ∙ drawn_alone known (segment_at t.segments i) y x0 n a e low spanned (updates_of_one t s i y x0 n row) (drawn_one t s i y x0 n row 0 a.r0) (drawn_one t s i y x0 n row 1 a.r1) (drawn_one t s i y x0 n row 2 a.r2)

  -- the record's checks pass where the row's do
  record_fine : row_of t y ≡ i ∷ [] → judge_for true (sight_of (get_or s.owners i 0 ∷ []) s.splines s.bits s.desk) y (span_good x0 n (length a.r0) (length a.r1) (length a.r2)) ≡ Fine
  unfolding judge_for
  record_fine row =
      let o = owned_first s.owners s.splines i [] (sym (ap (all_owned s.owners s.splines) row) ∙ passed.row.all_owned_lem) in
      rw (lt-ltb s.desk 2 passed.lent.desk, le-leb s.splines (length s.bits) passed.lent.bytes, lt-ltb y (2 ^ 23) low, spanned, lt-ltb (get_or s.owners i 0) s.splines o) refl

  one_record : row_of t y ≡ i ∷ [] → (b : Bool) → hidden_in s i ≡ b → draw_of t s y x0 n a ≡ cond b (leaves (Done 0) a) (draw_alone true (segment_at t.segments i) y x0 n a)
  one_record row true e =
      let m : shown_of t s y ≡ shown s (i ∷ []) = ap (shown s) row in
      let k : (c : ℕ) (xs : List Float) → xs ≡ drawn_channel c t s y x0 n xs = λ c xs. hidden_kept s t.segments y x0 n i c xs e ∙ ap (λ (l : List ℕ). edit (first_cells n (λ j v. pixel c t.segments y (x0 + j) l v)) xs) (sym m) in
      sym (answer_done t s y x0 n a fine (hidden_counts s t.segments y x0 n i e ∙ ap (updates t.segments x0 n) (sym m)) (k 0 a.r0) (k 1 a.r1) (k 2 a.r2))
  one_record row false e = one_drawn true refl (ap (shown s) row ∙ rw e refl)

pub row_of_one_is_its_number : RowOfOneIsItsNumber
row_of_one_is_its_number t s i y x0 n a fine row =
    let p = passed t s i y x0 n a fine in
    let known = known_here t.segments t.segment_count i (named t s i y x0 n row p.row.table) p.lent.counts.table.segments_fit in
    one_drawn t s i y x0 n a fine (is_known t.segments t.segment_count i) known row

pub row_of_one_is_its_record : RowOfOneIsItsRecord
unfolding draw_for
row_of_one_is_its_record t s i y x0 n a fine row =
    one_record t s i y x0 n a fine row (hidden_in s i) refl
    ∙ sym (ap (λ (v : Verdict). outcome_for v (hidden_in s i) (draw_alone true (segment_at t.segments i) y x0 n a) a) (record_fine t s i y x0 n a fine row))

-- Assumes nothing.
