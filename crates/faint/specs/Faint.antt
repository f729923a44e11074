-- A segment is faint where its distance, the third of its eight floats, is NaN. Definitions only.
use Rattle.std.specs.Prelude.{cond, List, ℕ, zero, suc, ◌+◌, Float}
use Rattle.std.specs.Float.Ieee.{is_nan}
use Rattle.segments.specs.Segment.{field}

-- how many of the first n segments of a flat list are
unfoldable pub faint_in : List Float → ℕ → ℕ
faint_in segs zero = 0
faint_in segs (suc n) = faint_in segs n + cond (is_nan (field segs n 2)) 1 0
