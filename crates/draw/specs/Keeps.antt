-- Which cells a drawing updates. Definitions only.
use Rattle.std.specs.Prelude.{◌≡◌, true, ℕ, ◌+◌, ◌<◌, length, get_or}
use Rattle.std.specs.Float.{nan}
use Rattle.segments.specs.Segment.{segment_at}
use Rattle.segments.specs.Ranges.{has_column}
use Rattle.draw.specs.Draw.{Table, Sight, shown_of, Channels}

-- a desk's drawing of n pixels of row y from column x0 on updates cell k: the cell is in the part, and the segment of a shown entry of the row has its column
pub record Updates (t : Table) (s : Sight) (y x0 n k : ℕ) : Type 0 where
  pub in_part : k < n
  pub entry : ℕ
  pub in_row_lem : entry < length (shown_of t s y)
  pub has : has_column (segment_at t.segments (get_or (shown_of t s y) entry 0)) (x0 + k) ≡ true

-- cell k is the same in three channels before and after
pub record SameCell (k : ℕ) (a b : Channels) : Type 0 where
  pub cell0 : get_or b.r0 k nan ≡ get_or a.r0 k nan
  pub cell1 : get_or b.r1 k nan ≡ get_or a.r1 k nan
  pub cell2 : get_or b.r2 k nan ≡ get_or a.r2 k nan

-- each channel is as long as it was
pub record SameLengths (a b : Channels) : Type 0 where
  pub length0 : length b.r0 ≡ length a.r0
  pub length1 : length b.r1 ≡ length a.r1
  pub length2 : length b.r2 ≡ length a.r2
