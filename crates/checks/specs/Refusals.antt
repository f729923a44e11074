-- What each check refuses and what passes it, in the words of the table of codes. Definitions only.
-- That a check fails exactly so is proofs/Refusals.antt.
use Rattle.std.specs.Prelude.{ℕ, ◌+◌, ◌*◌, ◌^◌, ◌≤◌, ◌<◌, length, get_or}
use Rattle.desks.specs.Desks.{Sight, owner_in}
use Rattle.checks.specs.Tables.{Table, row_of}

-- ---- the counts of a table

-- a count that exceeds its limit or overruns its buffer
pub data Overrun (t : Table) : Type 0 where
  many_segments : 2 ^ 24 < t.segment_count → Overrun t
  segments_short : length t.segments < 8 * t.segment_count → Overrun t
  many_entries : 2 ^ 30 < t.entry_count → Overrun t
  entries_short : length t.entries < t.entry_count → Overrun t
  high : 2 ^ 23 < t.height → Overrun t
  starts_short : length t.row_starts < t.height + 1 → Overrun t

-- every count is within its limit and its buffer
pub record CountsFit (t : Table) : Type 0 where
  pub few_segments : t.segment_count ≤ 2 ^ 24
  pub segments_fit : 8 * t.segment_count ≤ length t.segments
  pub few_entries : t.entry_count ≤ 2 ^ 30
  pub entries_fit : t.entry_count ≤ length t.entries
  pub low : t.height ≤ 2 ^ 23
  pub starts_fit : t.height + 1 ≤ length t.row_starts

-- a count of the table overruns, or fewer owners are lent than the segments in use
pub data OverrunFor (t : Table) (s : Sight) : Type 0 where
  in_table : Overrun t → OverrunFor t s
  owners_short : length s.owners < t.segment_count → OverrunFor t s

pub record CountsFitFor (t : Table) (s : Sight) : Type 0 where
  pub table : CountsFit t
  pub owners_fit : t.segment_count ≤ length s.owners

-- ---- a part of a row: n pixels from column x0 on, in channels of three lengths

-- the part passes the widest image, or a channel is shorter than the part
pub data SpanOut (x0 n l0 l1 l2 : ℕ) : Type 0 where
  past_image : 2 ^ 23 < x0 + n → SpanOut x0 n l0 l1 l2
  short0 : l0 < n → SpanOut x0 n l0 l1 l2
  short1 : l1 < n → SpanOut x0 n l0 l1 l2
  short2 : l2 < n → SpanOut x0 n l0 l1 l2

pub record SpanFits (x0 n l0 l1 l2 : ℕ) : Type 0 where
  pub inside_image : x0 + n ≤ 2 ^ 23
  pub fits0 : n ≤ l0
  pub fits1 : n ≤ l1
  pub fits2 : n ≤ l2

-- ---- a row of a table

-- its starts descend or pass the entry count, or entry j of it names no segment
pub data RowBad (t : Table) (y : ℕ) : Type 0 where
  descends : get_or t.row_starts (y + 1) 0 < get_or t.row_starts y 0 → RowBad t y
  passes : t.entry_count < get_or t.row_starts (y + 1) 0 → RowBad t y
  names_none : (j : ℕ) → j < length (row_of t y) → t.segment_count ≤ get_or (row_of t y) j 0 → RowBad t y

-- it is bad in the table, or the segment of entry j of it names no spline
pub data RowBadFor (t : Table) (s : Sight) (y : ℕ) : Type 0 where
  in_table : RowBad t y → RowBadFor t s y
  no_spline : (j : ℕ) → j < length (row_of t y) → s.splines ≤ owner_in s (get_or (row_of t y) j 0) → RowBadFor t s y

-- ---- what comes before the row: the desk is one of the two, the counts fit, and a byte is lent for each spline
pub record Lent (t : Table) (s : Sight) : Type 0 where
  pub desk : s.desk < 2
  pub counts : CountsFitFor t s
  pub bytes : s.splines ≤ length s.bits
