-- Two ranges of columns joined, and the columns of a segment as a range. Definitions only.
use Rattle.std.specs.Prelude.{cond, ℕ, min, max, ltb}
use Rattle.segments.specs.Ranges.{column_first, column_past}
use Rattle.segments.specs.declared.Segment.{Segment}
use Rattle.segments.specs.declared.Range.{Range}

-- the least range that holds both; one without columns is skipped
unfoldable pub joined : Range → Range → Range
joined a b =
    cond (ltb b.first b.past)
    (cond (ltb a.first a.past) (record { first = min a.first b.first; past = max a.past b.past }) b)
    a

-- the columns of a segment as a range, cut at W; it may have none
abbrev pub columns_below : ℕ → Segment → Range
columns_below W s = record { first = column_first s; past = min W (column_past s) }
