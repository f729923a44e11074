-- Two tables that are alike where a call looks: in one row, and in all that a build has written. Definitions only.
use Rattle.std.specs.Prelude.{◌≡◌, ◌↔◌, ℕ, ◌+◌, ◌*◌, ◌<◌, ◌≤◌, length, get_or, take}
use Rattle.segments.specs.Segment.{segment_at}
use Rattle.desks.specs.Desks.{Sight, owner_in}
use Rattle.desks.specs.Agree.{Agree}
use Rattle.checks.specs.Tables.{Table, row_of}
use Rattle.checks.specs.Refusals.{CountsFit}

-- alike in row y: the counts, the two starts of the row, its entries and the segments that they name; the other rows, and what stands behind the counts, may differ
pub record AlikeIn (y : ℕ) (t u : Table) : Type 0 where
  pub fit : CountsFit t ↔ CountsFit u
  pub segment_count_lem : t.segment_count ≡ u.segment_count
  pub entry_count_lem : t.entry_count ≡ u.entry_count
  pub height : t.height ≡ u.height
  pub first : get_or t.row_starts y 0 ≡ get_or u.row_starts y 0
  pub past : get_or t.row_starts (y + 1) 0 ≡ get_or u.row_starts (y + 1) 0
  pub entries : row_of t y ≡ row_of u y
  pub segments : (j : ℕ) → j < length (row_of t y) → get_or (row_of t y) j 0 < t.segment_count → segment_at t.segments (get_or (row_of t y) j 0) ≡ segment_at u.segments (get_or (row_of t y) j 0)

-- and for a desk: the sights agree in what it may see, both lend owners enough or neither does, and the row's entries have the same owners; the other desk's bits, and what stands behind the splines' bytes, may differ
pub record AlikeFor (y : ℕ) (t : Table) (s : Sight) (u : Table) (r : Sight) : Type 0 where
  pub tables : AlikeIn y t u
  pub sights : Agree s r
  pub owners_fit : (t.segment_count ≤ length s.owners) ↔ (u.segment_count ≤ length r.owners)
  pub owners : (j : ℕ) → j < length (row_of t y) → get_or (row_of t y) j 0 < t.segment_count → owner_in s (get_or (row_of t y) j 0) ≡ owner_in r (get_or (row_of t y) j 0)

-- table t as kept in u: the same counts and height, and in use the same floats, entries and row starts, whatever stands behind them
pub record Kept (t u : Table) : Type 0 where
  pub segment_count_lem : t.segment_count ≡ u.segment_count
  pub entry_count_lem : t.entry_count ≡ u.entry_count
  pub height : t.height ≡ u.height
  pub segments : take (8 * t.segment_count) t.segments ≡ take (8 * t.segment_count) u.segments
  pub entries : take t.entry_count t.entries ≡ take t.entry_count u.entries
  pub starts : take (t.height + 1) t.row_starts ≡ take (t.height + 1) u.row_starts

-- with its owners in use kept too, and sights that agree
pub record KeptFor (t : Table) (s : Sight) (u : Table) (r : Sight) : Type 0 where
  pub table : Kept t u
  pub owners : take t.segment_count s.owners ≡ take t.segment_count r.owners
  pub sights : Agree s r
