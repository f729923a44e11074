-- Every table that a build leaves is right, and is accepted wherever it is kept with one more row start than rows.
use mathlib.Core.Path.{◌≡◌, refl, sym, ap, ◌∙◌}
use mathlib.Core.List.{List}
use Prim.Native.Nat.{ℕ, suc, ◌+◌, ◌*◌, ◌<◌}
use native.Mathlib.Numerals.{add-one}
use native.Mathlib.Omega.{arith}
use lib.ListN.{length, get_or}
use lib.Seq.{take-take, length-take-le}
use Rattle.rows.specs.Rows.{start_of, in_row}
use Rattle.table.specs.Table.{Setting, BuildRooms, BuildOutcome}
use Rattle.dequantize.specs.Judge.{Description}
use Rattle.checks.specs.Tables.{Table}
use Rattle.checks.specs.Refusals.{CountsFit}
use Rattle.checks.specs.Alike.{Kept}
use Rattle.checks.proofs.Checks.{counts_facts, row_facts}
use Rattle.checks.proofs.Alike.{kept_fits}
use Rattle.picture.specs.Picture.{Built, built}
use Rattle.picture.proofs.Tables.{facts, counts_good_lem, row_good_lem, built_table}
use Rattle.makers.specs.CheckAnswer as CheckAnswer
use Rattle.makers.specs.Check.{RowRight, check_of}
use Rattle.makers.specs.Refusals.{Fits}
use Rattle.makers_laws.specs.Cut.{cut_to_counts}
use Rattle.makers_laws.proofs.Tables.{Right, built_right, kept_right}
use Rattle.makers_laws.proofs.Refusals.{accepted_told}

-- a table whose counts fit for drawing fits the check, with one more row start than rows; and one that fits the check fits for drawing
pub fits_check : (t : Table) → CountsFit t → length t.row_starts ≡ suc t.height → Fits t.segments t.segment_count t.height t.row_starts t.entries t.entry_count
fits_check t f tall = record {
  low = f.low;
  tall = tall;
  counts = record { few_segments = f.few_segments; segments_fit = f.segments_fit; few_entries = f.few_entries; entries_fit = f.entries_fit };
}

pub fits_drawing : (t : Table) → Fits t.segments t.segment_count t.height t.row_starts t.entries t.entry_count → CountsFit t
fits_drawing t f = record {
  few_segments = f.counts.few_segments;
  segments_fit = f.counts.segments_fit;
  few_entries = f.counts.few_entries;
  entries_fit = f.counts.entries_fit;
  low = f.low;
  starts_fit = omega (arith, f.tall);
}

module _ {d : Description} {i : Setting} {r : BuildRooms} {o : BuildOutcome} {s e estimate : ℕ} (b : Built d i r o s e estimate) where
  pub fits : CountsFit (built i o s e)
  fits = counts_facts (built i o s e) (counts_good_lem b)

  row : (y : ℕ) → y < i.height → RowRight (in_row o.segments) s o.starts o.entries e y
  row y h =
      let f = row_facts (built i o s e) y (row_good_lem b y h) in
      record { rises = rw (← add-one y) f.ascending; ends = rw (← add-one y) f.in_count; lists = rw (← add-one y) ((built_table b).row y h) }

  pub left_right : Right (built i o s e)
  left_right =
      let t = built_table b in
      let g = built_right o.segments s i.height r.starts (start_of (in_row o.segments) s i.height) (facts b).fits_starts (omega arith) (omega (arith, t.entry_count_lem, fits.few_entries)) in
      record { begins = rw t.starts g.begins; rows = row; closes = ap (λ (l : List ℕ). get_or l i.height 0) t.starts ∙ g.closes ∙ sym t.entry_count_lem }

  module _ {t : Table} (k : Kept (built i o s e) t) where
    pub kept_fit : CountsFit t
    kept_fit = kept_fits k fits

    pub kept_is_right : Right t
    kept_is_right = kept_right k left_right

    pub kept_accepted : length t.row_starts ≡ suc t.height → check_of t.segments t.segment_count t.height t.row_starts t.entries t.entry_count ≡ CheckAnswer.Done t.entry_count
    kept_accepted tall = accepted_told _ _ _ _ _ _ (record { fits = fits_check t kept_fit tall; right = kept_is_right; told = refl })

-- ---- cut to its counts

pub cut_kept : (t : Table) → Kept t (cut_to_counts t)
cut_kept t = record {
  segment_count_lem = refl;
  entry_count_lem = refl;
  height = refl;
  segments = sym (take-take (8 * t.segment_count) (8 * t.segment_count) t.segments (omega arith));
  entries = sym (take-take t.entry_count t.entry_count t.entries (omega arith));
  starts = sym (take-take (t.height + 1) (t.height + 1) t.row_starts (omega arith));
}

pub cut_tall : (t : Table) → CountsFit t → length (cut_to_counts t).row_starts ≡ suc t.height
cut_tall t f = length-take-le (t.height + 1) t.row_starts f.starts_fit ∙ add-one t.height

-- Assumes nothing.
