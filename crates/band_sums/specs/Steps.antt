-- The steps of a summary: a sum over entries that takes one after another, and that tells where one is bad. Definitions only.
use Rattle.std.specs.Prelude.{Bool, true, false, cond, ◌&&◌, ℕ, ◌+◌, min, max, ltb, Float}
use mathlib.Core.List.{List, foldl}
use Rattle.segments.specs.Segment.{segment_at}
use Rattle.segments.specs.declared.Range.{Range}
use Rattle.desks.specs.Desks.{Sight, shown, all_owned}
use Rattle.checks.specs.Tables.{Table, shown_of}
use Rattle.checks.specs.Checks.{all_below, row_good_for}
use Rattle.joins.specs.Joins.{joined, columns_below}
use Rattle.band_sums.specs.declared.BandNumbers.{BandNumbers}
use Rattle.band_sums.specs.Summed.{Summed, Good, Bad}
use Rattle.band_sums.specs.Numbers.{rows_good_from, shown_from}

-- of no entry
abbrev pub nothing : BandNumbers
nothing = record { entries = 0; least = 0; greatest = 0; first = 0; past = 0 }

-- the least of what was summed and i; of no entry it is i
abbrev pub least_with : BandNumbers → ℕ → ℕ
least_with m i = cond (ltb 0 m.entries) (min m.least i) i

-- the columns of a sum, joined with those of segment i below W
abbrev pub columns_with : List Float → ℕ → BandNumbers → ℕ → Range
columns_with segs W m i = joined (record { first = m.first; past = m.past }) (columns_below W (segment_at segs i))

-- a sum with entry i
unfoldable pub with_one : List Float → ℕ → BandNumbers → ℕ → BandNumbers
with_one segs W m i = record {
  entries = m.entries + 1;
  least = least_with m i;
  greatest = max m.greatest i;
  first = (columns_with segs W m i).first;
  past = (columns_with segs W m i).past;
}

-- and with listed entries, one after another
abbrev pub summed : List Float → ℕ → BandNumbers → List ℕ → BandNumbers
summed segs W m l = foldl (with_one segs W) m l

-- the sum, if what was summed is good
abbrev pub good_or : Bool → BandNumbers → Summed
good_or true m = Good m
good_or false m = Bad

-- with what is shown of listed entries, of segments below `count` with owners that are splines
abbrev pub sum_over : List Float → ℕ → Sight → ℕ → BandNumbers → List ℕ → Summed
sum_over segs count s W m l = good_or (all_below count l && all_owned s.owners s.splines l) (summed segs W m (shown s l))

-- with what is shown of row y
abbrev pub sum_row : Table → Sight → ℕ → BandNumbers → ℕ → Summed
sum_row t s W m y = good_or (row_good_for t s y) (summed t.segments W m (shown_of t s y))

-- with what is shown of n rows from y on
abbrev pub sum_rows : Table → Sight → ℕ → BandNumbers → ℕ → ℕ → Summed
sum_rows t s W m y n = good_or (rows_good_from t s y n) (summed t.segments W m (shown_from t s y n))
