-- A range of columns cut to a part of a row, and a channel with a segment added in a range. Definitions only.
use Rattle.std.specs.Prelude.{◌≡◌, Bool, cond, List, ℕ, ◌+◌, ◌-◌, ◌<◌, ◌≤◌, length, get_or, Float}
use Rattle.std.specs.Float.{nan}
use Rattle.segments.specs.declared.Segment.{Segment}
use Rattle.segments.specs.declared.Range.{Range}
use Rattle.shade.specs.Shade.{shaded_by_intensity}
use Rattle.columns.specs.Columns.{between}

-- a range that is those of the n columns from x0 on that pass the test
pub record Cuts (r : Range) (p : ℕ → Bool) (x0 n : ℕ) : Type 0 where
  pub begins : x0 ≤ r.first
  pub ascends : r.first ≤ r.past
  pub ends : r.past ≤ x0 + n
  pub passes : (k : ℕ) → k < n → between r.first r.past (x0 + k) ≡ p (x0 + k)

-- a range of at most 32 columns that three channels hold, each of which begins at column x0
pub record InChannels (r : Range) (x0 : ℕ) (r0 r1 r2 : List Float) : Type 0 where
  pub begins : x0 ≤ r.first
  pub ascends : r.first ≤ r.past
  pub narrow : r.past ≤ r.first + 32
  pub within0 : r.past ≤ x0 + length r0
  pub within1 : r.past ≤ x0 + length r1
  pub within2 : r.past ≤ x0 + length r2

-- cell k of a channel of colour c that begins at column x0, with a segment added by the intensities at the columns of a range, if the range has its column
abbrev pub shaded_in_range_by : Segment → Range → List Float → ℕ → ℕ → ℕ → Float → Float
shaded_in_range_by s r locals x0 c k v = cond (between r.first r.past (x0 + k)) (shaded_by_intensity s (get_or locals (x0 + k - r.first) nan) c v) v
