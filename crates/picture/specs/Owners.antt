-- Which segments are a spline's, told by their owners; and the splines that are skipped. Definitions only.
use Rattle.std.specs.Prelude.{◌≡◌, true, cond, List, [], ◌∷◌, ℕ, zero, suc, ◌≤◌, ◌<◌, eqb, length, get_or, Float}
use Rattle.std.specs.Float.Ieee.{le}
use Rattle.numbers.specs.Arith.{f}
use Rattle.control_points.specs.declared.Pair.{Pair}
use Rattle.control_points.specs.Answers.{At}
use Rattle.control_points.specs.ControlPoints.{starting_point}
use Rattle.dequantize.specs.Judge.{Description, start_x, start_y, deltas_of}
use Rattle.segments.specs.declared.Segment.{Segment}
use Rattle.segments.specs.Segment.{segment_at}
use Rattle.curve.specs.Curve as Curve
use Rattle.curve.specs.Curve.{path_of}
use Rattle.walk.specs.Walk.{PointToDraw, Walks, walk_length, last_multiplier}

-- so many segments of a flat list, from number j on
abbrev pub segments_in : List Float → ℕ → ℕ → List Segment
segments_in xs j zero = []
segments_in xs j (suc n) = segment_at xs j ∷ segments_in xs (suc j) n

-- the segments whose owner is k, in their order
abbrev pub owned_by : ℕ → List ℕ → List Segment → List Segment
owned_by k [] segs = []
owned_by k (owner ∷ owners) [] = []
owned_by k (owner ∷ owners) (s ∷ segs) = cond (eqb owner k) (s ∷ owned_by k owners segs) (owned_by k owners segs)

-- so many owners never fall, and each is the number of one of n splines
pub record Ascending (n count : ℕ) (owners : List ℕ) : Type 0 where
  pub below : (j : ℕ) → j < count → get_or owners j 0 < n
  pub ascends : (i j : ℕ) → i ≤ j → j < count → get_or owners i 0 ≤ get_or owners j 0

-- the spline k is skipped: the length of its walk is 0 or less
pub record Skipped (d : Description) (k : ℕ) : Type 0 where
  pub start : Pair
  pub begins : starting_point (start_x d k) (start_y d k) ≡ At start
  pub points : List PointToDraw
  pub walks : Walks (Curve.flat (path_of start (deltas_of d k))) points
  pub no_length : le (walk_length (length points) (last_multiplier points)) (f 0) ≡ true
