-- What a passed check says, and what the checks say together.
use mathlib.Core.Path.{◌≡◌, refl, subst}
use mathlib.Core.Bool.{Bool, true, false}
use Prim.Native.Nat.{ℕ, ◌+◌, ◌<◌, ◌≤◌}
use native.Mathlib.Omega.{arith}
use lib.ListN.{length, get_or}
use lib.Dec.{leb, ltb}
use borrow.Author.Tests.{ltb-true, leb-true}
use Rattle.codes.specs.declared.Code.{Code}
use Rattle.desks.specs.Desks.{Sight, desk_good, bytes_good, all_owned}
use Rattle.checks.specs.Tables.{Table, row_of}
use Rattle.checks.specs.Checks.{all_below, counts_good, counts_good_for, span_good, entries_good, row_good, row_good_for, EntriesFit, or_fault, judge_row, judge_draw}
use Rattle.checks.specs.Refusals.{CountsFit, CountsFitFor, SpanFits, Lent}
use Rattle.checks.specs.Verdict.{Verdict, Fine, Fault}
use Rattle.checks.proofs.Entries.{and_left, and_right}

pub counts_facts : (t : Table) → counts_good t ≡ true → CountsFit t
unfolding counts_good
counts_facts t h =
    record {
      few_segments = leb-true _ _ (search (and_left, and_right, h));
      segments_fit = leb-true _ _ (search (and_left, and_right, h));
      few_entries = leb-true _ _ (search (and_left, and_right, h));
      entries_fit = leb-true _ _ (search (and_left, and_right, h));
      low = leb-true _ _ (search (and_left, and_right, h));
      starts_fit = leb-true _ _ (search (and_left, and_right, h));
    }

pub span_facts : (x0 n l0 l1 l2 : ℕ) → span_good x0 n l0 l1 l2 ≡ true → SpanFits x0 n l0 l1 l2
unfolding span_good
span_facts x0 n l0 l1 l2 h =
    record {
      inside_image = leb-true _ _ (search (and_left, and_right, h));
      fits0 = leb-true _ _ (search (and_left, and_right, h));
      fits1 = leb-true _ _ (search (and_left, and_right, h));
      fits2 = leb-true _ _ (search (and_left, and_right, h));
    }

pub record RowFacts (t : Table) (y : ℕ) : Type 0 where
  pub ascending : get_or t.row_starts y 0 ≤ get_or t.row_starts (y + 1) 0
  pub in_count : get_or t.row_starts (y + 1) 0 ≤ t.entry_count
  pub all_named : all_below t.segment_count (row_of t y) ≡ true

pub row_facts : (t : Table) (y : ℕ) → row_good t y ≡ true → RowFacts t y
unfolding entries_good
row_facts t y h =
    record {
      ascending = leb-true _ _ (search (and_left, and_right, h));
      in_count = leb-true _ _ (search (and_left, and_right, h));
      all_named = search (and_left, and_right, h);
    }

-- ---- for a sight

pub counts_facts_for : (t : Table) (s : Sight) → counts_good_for t s ≡ true → CountsFitFor t s
unfolding counts_good_for
counts_facts_for t s h =
    record {
      table = counts_facts t (and_left (counts_good t) (leb t.segment_count (length s.owners)) h);
      owners_fit = leb-true _ _ (and_right (counts_good t) (leb t.segment_count (length s.owners)) h);
    }

pub record RowFactsFor (t : Table) (s : Sight) (y : ℕ) : Type 0 where
  pub table : RowFacts t y
  pub all_owned_lem : all_owned s.owners s.splines (row_of t y) ≡ true

pub row_facts_for : (t : Table) (s : Sight) (y : ℕ) → row_good_for t s y ≡ true → RowFactsFor t s y
unfolding row_good_for
row_facts_for t s y h =
    record {
      table = row_facts t y (and_left (row_good t y) (all_owned s.owners s.splines (row_of t y)) h);
      all_owned_lem = and_right (row_good t y) (all_owned s.owners s.splines (row_of t y)) h;
    }

-- the entries of a row that passed, of a table that is lent as it should be
pub row_fits : {t : Table} {s : Sight} {y : ℕ} → Lent t s → RowFactsFor t s y → EntriesFit t s (get_or t.row_starts y 0) (get_or t.row_starts (y + 1) 0)
row_fits l r = record {
  ascending = r.table.ascending;
  entries_fit = omega (arith, r.table.in_count, l.counts.table.entries_fit);
  segments_fit = l.counts.table.segments_fit;
  owners_fit = l.counts.owners_fit;
  bytes = l.bytes;
  desk = l.desk;
  named = r.table.all_named;
  owned = r.all_owned_lem;
}

-- ---- the checks together

-- a check before others: it passed, and so did they
pub passed_check : (b : Bool) (k : Code) (v : Verdict) → or_fault b k v ≡ Fine → (b ≡ true) × (v ≡ Fine)
passed_check true k v e = (refl, e)
passed_check false k v e = absurd (subst is_fault e tt)
  where
    is_fault : Verdict → Type 0
    is_fault Fine = ⊥
    is_fault (Fault c) = Unit

-- every check of a row passed
pub record PassedRow (t : Table) (s : Sight) (y : ℕ) (spanned : Bool) : Type 0 where
  pub counts : CountsFitFor t s
  pub bytes : s.splines ≤ length s.bits
  pub in_image : y < t.height
  pub in_span : spanned ≡ true
  pub row : RowFactsFor t s y

pub judged_row : (t : Table) (s : Sight) (y : ℕ) (spanned : Bool) → judge_row t s y spanned ≡ Fine → PassedRow t s y spanned
judged_row t s y spanned h =
    let s1 = passed_check (counts_good_for t s) Code.Table _ h in
    let s2 = passed_check (bytes_good s) Code.Trace _ s1.1 in
    let s3 = passed_check (ltb y t.height) Code.Row _ s2.1 in
    let s4 = passed_check spanned Code.Span _ s3.1 in
    let s5 = passed_check (row_good_for t s y) Code.Table _ s4.1 in
    record {
      counts = counts_facts_for t s s1.0;
      bytes = leb-true s.splines (length s.bits) s2.0;
      in_image = ltb-true y t.height s3.0;
      in_span = s4.0;
      row = row_facts_for t s y s5.0;
    }

-- every check of `draw` passed
pub record Passed (t : Table) (s : Sight) (y x0 n l0 l1 l2 : ℕ) : Type 0 where
  pub lent : Lent t s
  pub in_image : y < t.height
  pub span : SpanFits x0 n l0 l1 l2
  pub row : RowFactsFor t s y

pub judged_fine : (t : Table) (s : Sight) (y x0 n l0 l1 l2 : ℕ) → judge_draw t s y x0 n l0 l1 l2 ≡ Fine → Passed t s y x0 n l0 l1 l2
unfolding judge_draw
judged_fine t s y x0 n l0 l1 l2 h =
    let s1 = passed_check (desk_good s) Code.Desk _ h in
    let p = judged_row t s y (span_good x0 n l0 l1 l2) s1.1 in
    record {
      lent = record { desk = ltb-true s.desk 2 s1.0; counts = p.counts; bytes = p.bytes };
      in_image = p.in_image;
      span = span_facts x0 n l0 l1 l2 p.in_span;
      row = p.row;
    }

-- Assumes nothing.
