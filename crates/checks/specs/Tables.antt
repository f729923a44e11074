-- A table as drawing takes it, the entries of a row, and those that a desk is shown. Definitions only.
use Rattle.std.specs.Prelude.{List, ℕ, ◌+◌, get_or, Float}
use Rattle.std.proofs.Math.Seq.{slice}
use Rattle.desks.specs.Desks.{Sight, shown}
use Rattle.checks.specs.declared.Table as declared

-- segments, entries and row starts, each in a buffer with the count in use; the row starts are one more than the rows
pub record Table : Type 0 where
  pub segments : List Float
  pub segment_count : ℕ
  pub entries : List ℕ
  pub entry_count : ℕ
  pub row_starts : List ℕ
  pub height : ℕ

abbrev pub table_of : List Float → ℕ → List ℕ → ℕ → List ℕ → ℕ → Table
table_of segments segment_count entries entry_count row_starts height = record {
  segments = segments;
  segment_count = segment_count;
  entries = entries;
  entry_count = entry_count;
  row_starts = row_starts;
  height = height;
}

-- the same of the value that calls pass
abbrev pub table_in : declared.Table → Table
table_in t = table_of t.segments.now t.segment_count t.entries.now t.entry_count t.row_starts.now t.height

-- the entries between the two starts of row y
abbrev pub entries_of : List ℕ → List ℕ → ℕ → List ℕ
entries_of row_starts entries y = slice (get_or row_starts y 0) (get_or row_starts (y + 1) 0) entries

abbrev pub row_of : Table → ℕ → List ℕ
row_of t y = entries_of t.row_starts t.entries y

-- those of them that are not hidden for the desk
abbrev pub shown_of : Table → Sight → ℕ → List ℕ
shown_of t s y = shown s (row_of t y)
