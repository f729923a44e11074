-- The checks of a table and of a part of a row, each a test, and their order. Definitions only.
use Rattle.std.specs.Prelude.{◌≡◌, Bool, true, false, ◌&&◌, List, [], ◌∷◌, ℕ, ◌+◌, ◌*◌, ◌^◌, ◌<◌, ◌≤◌, leb, ltb, length, get_or}
use Rattle.std.proofs.Math.Seq.{slice}
use Rattle.codes.specs.declared.Code.{Code}
use Rattle.desks.specs.Desks.{Sight, desk_good, bytes_good, all_owned}
use Rattle.checks.specs.Tables.{Table, entries_of, row_of}
use Rattle.checks.specs.Verdict.{Verdict, Fine, Fault}

-- the counts are in the buffers and not above 2^24 segments, 2^30 entries and the height 2^23
unfoldable pub counts_good : Table → Bool
counts_good t =
    leb t.segment_count (2 ^ 24) && leb (8 * t.segment_count) (length t.segments)
    && leb t.entry_count (2 ^ 30)
    && leb t.entry_count (length t.entries)
    && leb t.height (2 ^ 23)
    && leb (t.height + 1) (length t.row_starts)

-- and every segment in use has an owner in the buffer lent for them
unfoldable pub counts_good_for : Table → Sight → Bool
counts_good_for t s = counts_good t && leb t.segment_count (length s.owners)

-- n pixels from column x0 on are in the widest image and in channels of these lengths
unfoldable pub span_good : ℕ → ℕ → ℕ → ℕ → ℕ → Bool
span_good x0 n l0 l1 l2 = leb (x0 + n) (2 ^ 23) && leb n l0 && leb n l1 && leb n l2

abbrev pub all_below : ℕ → List ℕ → Bool
all_below m [] = true
all_below m (i ∷ is) = ltb i m && all_below m is

-- the two starts of row y do not descend nor pass the entry count, and the row's entries name segments
unfoldable pub entries_good : List ℕ → ℕ → List ℕ → ℕ → ℕ → Bool
entries_good entries entry_count row_starts segment_count y =
    leb (get_or row_starts y 0) (get_or row_starts (y + 1) 0) && leb (get_or row_starts (y + 1) 0) entry_count
    && all_below segment_count (entries_of row_starts entries y)

abbrev pub row_good : Table → ℕ → Bool
row_good t y = entries_good t.entries t.entry_count t.row_starts t.segment_count y

-- and the owners of the named segments are splines
unfoldable pub row_good_for : Table → Sight → ℕ → Bool
row_good_for t s y = row_good t y && all_owned s.owners s.splines (row_of t y)

-- what a look at the entries from b up to e takes: they are in their buffer and name segments, these are in theirs and have owners that are splines, and a byte is lent for each spline
pub record EntriesFit (t : Table) (s : Sight) (b e : ℕ) : Type 0 where
  pub ascending : b ≤ e
  pub entries_fit : e ≤ length t.entries
  pub segments_fit : 8 * t.segment_count ≤ length t.segments
  pub owners_fit : t.segment_count ≤ length s.owners
  pub bytes : s.splines ≤ length s.bits
  pub desk : s.desk < 2
  pub named : all_below t.segment_count (slice b e t.entries) ≡ true
  pub owned : all_owned s.owners s.splines (slice b e t.entries) ≡ true

-- a check: where it fails its code is the answer, else what comes after it
abbrev pub or_fault : Bool → Code → Verdict → Verdict
or_fault true c after = after
or_fault false c after = Fault c

-- the checks of a row for a desk, in their order: the counts, the bytes, the row, whether the span is good, and the row's entries
abbrev pub judge_row : Table → Sight → ℕ → Bool → Verdict
judge_row t s y spanned =
    or_fault (counts_good_for t s) Code.Table
    (or_fault (bytes_good s) Code.Trace
    (or_fault (ltb y t.height) Code.Row (or_fault spanned Code.Span (or_fault (row_good_for t s y) Code.Table Fine))))

-- the checks of drawing: the desk, and those of a row
unfoldable pub judge_draw : Table → Sight → ℕ → ℕ → ℕ → ℕ → ℕ → ℕ → Verdict
judge_draw t s y x0 n l0 l1 l2 = or_fault (desk_good s) Code.Desk (judge_row t s y (span_good x0 n l0 l1 l2))
