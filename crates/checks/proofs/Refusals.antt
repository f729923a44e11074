-- Each check fails exactly when the table of codes says.
use mathlib.Core.Path.{◌≡◌, refl}
use mathlib.Core.Bool.{Bool, true, false}
use mathlib.Core.Logic.{◌⊎◌, inl, inr, ⊎_elim}
use mathlib.Core.List.{List, [], ◌∷◌}
use Prim.Native.Nat.{ℕ, zero, suc, ◌+◌, ◌*◌, ◌^◌, ◌<◌, ◌≤◌}
use native.Mathlib.Omega.{arith}
use lib.Dec.{ltb}
use lib.ListN.{length, get_or}
use borrow.Author.Tests.{lt-ltb, le-leb, ltb-true}
use Rattle.shade.proofs.Edits.{lt_or_ge}
use Rattle.desks.specs.Desks.{Sight, all_owned}
use Rattle.desks.proofs.Shown.{owned_each}
use Rattle.checks.specs.Tables.{Table, row_of}
use Rattle.checks.specs.Checks.{all_below, counts_good, counts_good_for, span_good, entries_good, row_good, row_good_for}
use Rattle.checks.specs.Refusals.{Overrun, many_segments, segments_short, many_entries, entries_short, high, starts_short, CountsFit, SpanOut, past_image, short0, short1, short2, SpanFits, RowBad, descends, passes, names_none, OverrunFor, CountsFitFor, RowBadFor}
use Rattle.checks.specs.Refusals as codes
use Rattle.checks.proofs.Entries.{and_left, and_right}
use Rattle.checks.proofs.Checks.{counts_facts, counts_facts_for, span_facts, RowFacts, row_facts, RowFactsFor, row_facts_for}

pub is_false : (b : Bool) → (b ≡ true → ⊥) → b ≡ false
is_false true h = absurd (h refl)
is_false false h = refl

pub counts_fit : (t : Table) → CountsFit t → counts_good t ≡ true
unfolding counts_good
counts_fit t f =
    rw (
      le-leb t.segment_count (2 ^ 24) f.few_segments,
      le-leb (8 * t.segment_count) (length t.segments) f.segments_fit,
      le-leb t.entry_count (2 ^ 30) f.few_entries,
      le-leb t.entry_count (length t.entries) f.entries_fit,
      le-leb t.height (2 ^ 23) f.low,
      le-leb (t.height + 1) (length t.row_starts) f.starts_fit,
    )

overrun_unfit : (t : Table) → Overrun t → CountsFit t → ⊥
overrun_unfit t (many_segments h) f = omega (arith, h, f.few_segments)
overrun_unfit t (segments_short h) f = omega (arith, h, f.segments_fit)
overrun_unfit t (many_entries h) f = omega (arith, h, f.few_entries)
overrun_unfit t (entries_short h) f = omega (arith, h, f.entries_fit)
overrun_unfit t (high h) f = omega (arith, h, f.low)
overrun_unfit t (starts_short h) f = omega (arith, h, f.starts_fit)

pub counts_overrun : (t : Table) → Overrun t → counts_good t ≡ false
counts_overrun t o = is_false (counts_good t) (λ e. overrun_unfit t o (counts_facts t e))

pub fit_or_overrun : (t : Table) → CountsFit t ⊎ Overrun t
fit_or_overrun t =
    ⊎_elim (λ h. inr (many_segments h)) (λ a.
    ⊎_elim (λ h. inr (segments_short h)) (λ b.
    ⊎_elim (λ h. inr (many_entries h)) (λ c.
    ⊎_elim (λ h. inr (entries_short h)) (λ d.
    ⊎_elim (λ h. inr (high h)) (λ e.
    ⊎_elim (λ h. inr (starts_short h)) (λ f. inl (record { few_segments = a; segments_fit = b; few_entries = c; entries_fit = d; low = e; starts_fit = f }))
    (lt_or_ge (length t.row_starts) (t.height + 1)))
    (lt_or_ge (2 ^ 23) t.height))
    (lt_or_ge (length t.entries) t.entry_count))
    (lt_or_ge (2 ^ 30) t.entry_count))
    (lt_or_ge (length t.segments) (8 * t.segment_count)))
    (lt_or_ge (2 ^ 24) t.segment_count)

module _ (x0 n l0 l1 l2 : ℕ) where
  pub span_fits : SpanFits x0 n l0 l1 l2 → span_good x0 n l0 l1 l2 ≡ true
  unfolding span_good
  span_fits f = rw (le-leb (x0 + n) (2 ^ 23) f.inside_image, le-leb n l0 f.fits0, le-leb n l1 f.fits1, le-leb n l2 f.fits2)

  out_unfit : SpanOut x0 n l0 l1 l2 → SpanFits x0 n l0 l1 l2 → ⊥
  out_unfit (past_image h) f = omega (arith, h, f.inside_image)
  out_unfit (short0 h) f = omega (arith, h, f.fits0)
  out_unfit (short1 h) f = omega (arith, h, f.fits1)
  out_unfit (short2 h) f = omega (arith, h, f.fits2)

  pub span_out : SpanOut x0 n l0 l1 l2 → span_good x0 n l0 l1 l2 ≡ false
  span_out o = is_false (span_good x0 n l0 l1 l2) (λ e. out_unfit o (span_facts x0 n l0 l1 l2 e))

  pub fits_or_out : SpanFits x0 n l0 l1 l2 ⊎ SpanOut x0 n l0 l1 l2
  fits_or_out =
      ⊎_elim (λ h. inr (past_image h)) (λ a.
      ⊎_elim (λ h. inr (short0 h)) (λ b.
      ⊎_elim (λ h. inr (short1 h)) (λ c.
      ⊎_elim (λ h. inr (short2 h)) (λ d. inl (record { inside_image = a; fits0 = b; fits1 = c; fits2 = d }))
      (lt_or_ge l2 n))
      (lt_or_ge l1 n))
      (lt_or_ge l0 n))
      (lt_or_ge (2 ^ 23) (x0 + n))

-- the entries of a row, one by one
pub below_each : (m : ℕ) (l : List ℕ) → all_below m l ≡ true → (j : ℕ) → j < length l → get_or l j 0 < m
below_each m [] h j k = absurd (omega arith)
below_each m (i ∷ l) h zero k = ltb-true i m (and_left (ltb i m) (all_below m l) h)
below_each m (i ∷ l) h (suc j) k = below_each m l (and_right (ltb i m) (all_below m l) h) j (omega arith)

record Above (m : ℕ) (l : List ℕ) : Type 0 where
  index : ℕ
  listed : index < length l
  above : m ≤ get_or l index 0

below_or_above : (m : ℕ) (l : List ℕ) → (all_below m l ≡ true) ⊎ Above m l
below_or_above m [] = inl refl
below_or_above m (i ∷ l) =
    ⊎_elim
    (λ k. ⊎_elim
    (λ e. inl (rw (lt-ltb i m k) e))
    (λ a. inr (record { index = suc a.index; listed = omega (arith, a.listed); above = a.above }))
    (below_or_above m l))
    (λ k. inr (record { index = 0; listed = omega arith; above = k }))
    (lt_or_ge i m)

module _ (t : Table) (y : ℕ) where
  pub row_fine : RowFacts t y → row_good t y ≡ true
  unfolding entries_good
  row_fine f = rw (le-leb (get_or t.row_starts y 0) (get_or t.row_starts (y + 1) 0) f.ascending, le-leb (get_or t.row_starts (y + 1) 0) t.entry_count f.in_count, f.all_named)

  bad_unfit : RowBad t y → RowFacts t y → ⊥
  bad_unfit (descends h) f = omega (arith, h, f.ascending)
  bad_unfit (passes h) f = omega (arith, h, f.in_count)
  bad_unfit (names_none j k h) f = omega (arith, h, below_each t.segment_count (row_of t y) f.all_named j k)

  pub row_bad : RowBad t y → row_good t y ≡ false
  row_bad o = is_false (row_good t y) (λ e. bad_unfit o (row_facts t y e))

  pub fine_or_bad : (row_good t y ≡ true) ⊎ RowBad t y
  fine_or_bad =
      ⊎_elim (λ h. inr (descends h)) (λ a.
      ⊎_elim (λ h. inr (passes h)) (λ b.
      ⊎_elim (λ e. inl (row_fine (record { ascending = a; in_count = b; all_named = e }))) (λ c. inr (names_none c.index c.listed c.above))
      (below_or_above t.segment_count (row_of t y)))
      (lt_or_ge t.entry_count (get_or t.row_starts (y + 1) 0)))
      (lt_or_ge (get_or t.row_starts (y + 1) 0) (get_or t.row_starts y 0))

-- ---- for a sight

module _ (t : Table) (s : Sight) where
  pub counts_fit_for : CountsFitFor t s → counts_good_for t s ≡ true
  unfolding counts_good_for
  counts_fit_for f = rw (counts_fit t f.table, le-leb t.segment_count (length s.owners) f.owners_fit)

  overrun_unfit_for : OverrunFor t s → CountsFitFor t s → ⊥
  overrun_unfit_for (codes.OverrunFor.in_table o) f = overrun_unfit t o f.table
  overrun_unfit_for (codes.owners_short h) f = omega (arith, h, f.owners_fit)

  pub counts_overrun_for : OverrunFor t s → counts_good_for t s ≡ false
  counts_overrun_for o = is_false (counts_good_for t s) (λ e. overrun_unfit_for o (counts_facts_for t s e))

  pub fit_or_overrun_for : CountsFitFor t s ⊎ OverrunFor t s
  fit_or_overrun_for =
      ⊎_elim (λ f.
      ⊎_elim (λ h. inr (codes.owners_short h)) (λ h. inl (record { table = f; owners_fit = h }))
      (lt_or_ge (length s.owners) t.segment_count))
      (λ o. inr (codes.OverrunFor.in_table o))
      (fit_or_overrun t)

record NoSpline (owners : List ℕ) (splines : ℕ) (l : List ℕ) : Type 0 where
  index : ℕ
  listed : index < length l
  none : splines ≤ get_or owners (get_or l index 0) 0

owned_or_not : (owners : List ℕ) (splines : ℕ) (l : List ℕ) → (all_owned owners splines l ≡ true) ⊎ NoSpline owners splines l
owned_or_not owners splines [] = inl refl
owned_or_not owners splines (i ∷ l) =
    ⊎_elim
    (λ k. ⊎_elim
    (λ e. inl (rw (lt-ltb (get_or owners i 0) splines k) e))
    (λ a. inr (record { index = suc a.index; listed = omega (arith, a.listed); none = a.none }))
    (owned_or_not owners splines l))
    (λ k. inr (record { index = 0; listed = omega arith; none = k }))
    (lt_or_ge (get_or owners i 0) splines)

module _ (t : Table) (s : Sight) (y : ℕ) where
  pub row_fine_for : RowFactsFor t s y → row_good_for t s y ≡ true
  unfolding row_good_for
  row_fine_for f = rw (row_fine t y f.table, f.all_owned_lem)

  bad_unfit_for : RowBadFor t s y → RowFactsFor t s y → ⊥
  bad_unfit_for (codes.RowBadFor.in_table o) f = bad_unfit t y o f.table
  bad_unfit_for (codes.no_spline j k h) f = omega (arith, h, owned_each s.owners s.splines (row_of t y) f.all_owned_lem j k)

  pub row_bad_for : RowBadFor t s y → row_good_for t s y ≡ false
  row_bad_for o = is_false (row_good_for t s y) (λ e. bad_unfit_for o (row_facts_for t s y e))

  pub fine_or_bad_for : (row_good_for t s y ≡ true) ⊎ RowBadFor t s y
  fine_or_bad_for =
      ⊎_elim (λ e.
      ⊎_elim (λ o. inl (row_fine_for (record { table = row_facts t y e; all_owned_lem = o }))) (λ a. inr (codes.no_spline a.index a.listed a.none))
      (owned_or_not s.owners s.splines (row_of t y)))
      (λ o. inr (codes.RowBadFor.in_table o))
      (fine_or_bad t y)

-- Assumes nothing.
