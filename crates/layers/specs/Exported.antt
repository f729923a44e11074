-- What the exported layers return and leave: a layer's outcome as numbers and slices. Definitions only.
use Rattle.std.specs.Prelude.{◌≡◌, Bool, true, false, cond, List, [], ◌∷◌, ℕ, ◌/◌, leb, ℤ, pos, length, replicate, Option, Some, None, Result, Ok, Err, Float}
use Rattle.numbers.specs.Arith.{0·0}
use Rattle.codes.specs.Codes.{number_of}
use Rattle.codes.specs.declared.Code.{Code}
use Rattle.codes.specs.declared.Code.TheVariants.{Room, Shape, Position}
use Rattle.dequantize.specs.declared.Given.{Given}
use Rattle.dequantize.specs.declared.Spline.{Spline}
use Rattle.control_points.specs.declared.Pair.{Pair}
use Rattle.control_points.specs.Answers.{Start, At, Out, Traced, On, Stop}
use Rattle.control_points.specs.ControlPoints.{trace_of}
use Rattle.shape.specs.Description.{Description}
use Rattle.dequantize.specs.Answers.{Judged, Fine, Refused}
use Rattle.dequantize.specs.Judge.{judge_of}
use Rattle.curve.specs.Curve.{path_of, path_room, curved_of, curved_on}
use Rattle.curve.specs.Curved.{Curved}
use Rattle.curve.specs.Curved as path
use Rattle.walk.specs.Walk.{Walk, walked_of, WalkedOn, walk_length}
use Rattle.walk.specs.Walked.{Walked}
use Rattle.walk.specs.Walked as walk
use Rattle.transform.specs.declared.Sums.{Sums}
use Rattle.points.specs.Points.{filled_of}
use Rattle.points.specs.Filled.{Filled}
use Rattle.points.specs.Filled as filled
use Rattle.segments.specs.Segment.{eight_of}
use Rattle.segments.specs.declared.Range.{Range}
use Rattle.segments.specs.declared.Segment.{Segment}
use Rattle.verdict.specs.Verdict.{shaped, or_refused}

-- ---- dequantizing

-- the trace from a start that is taken, else POSITION
abbrev pub traced_from : ℕ → List ℤ → Start → Traced
traced_from limit ds Out = Stop Position
traced_from limit ds (At start) = trace_of limit start ds

-- the code's number, the last control point and the Manhattan sum
pub record Ran : Type 0 where
  pub number : ℕ
  pub x : ℤ
  pub y : ℤ
  pub manhattan : ℕ

abbrev pub ran_leaves : ℕ → ℤ → ℤ → ℕ → Ran
ran_leaves number x y manhattan = record { number = number; x = x; y = y; manhattan = manhattan }

abbrev pub ran_of : Traced → Ran
ran_of (On run) = ran_leaves 0 run.point.x run.point.y run.manhattan
ran_of (Stop code) = ran_leaves (number_of code) (pos 0) (pos 0) 0

abbrev pub given_of : ℤ → Float → Float → ℕ → Given
given_of adjustment ytox ytob limit = record { adjustment = adjustment; y_to_x = ytox; y_to_b = ytob; limit = limit }

-- the code's number, the rows, the estimate, and whether adjacent points are the same
pub record DequantizedExport : Type 0 where
  pub number : ℕ
  pub x : List Float
  pub y : List Float
  pub b : List Float
  pub sigma : List Float
  pub estimate : ℕ
  pub coincide : Bool

abbrev pub dequantized_leaves : ℕ → List Float → List Float → List Float → List Float → ℕ → Bool → DequantizedExport
dequantized_leaves r x y b sigma estimate coincide =
    record { number = r; x = x; y = y; b = b; sigma = sigma; estimate = estimate; coincide = coincide }

-- a refusal has rows of zeros, no estimate and no points that are the same
abbrev pub dequantized_export : Result Spline Code → DequantizedExport
dequantized_export (Ok s) = dequantized_leaves 0 s.x s.y s.b s.sigma s.estimate s.coincide
dequantized_export (Err code) = dequantized_leaves (number_of code) (replicate 32 0·0) (replicate 32 0·0) (replicate 32 0·0) (replicate 32 0·0) 0 false

-- SHAPE, then all splines
abbrev pub judged_of : Description → Given → Judged
judged_of d g = or_refused (shaped d) Shape (judge_of d g)

-- a judging's number, place and summed estimate
pub record JudgedTold : Type 0 where
  pub number : ℕ
  pub place : ℕ
  pub estimate : ℕ

abbrev pub judged_leaves : ℕ → ℕ → ℕ → JudgedTold
judged_leaves number place estimate = record { number = number; place = place; estimate = estimate }

abbrev pub told_judged : Judged → JudgedTold
told_judged (Fine total) = judged_leaves 0 0 total
told_judged (Refused code k) = judged_leaves (number_of code) k 0

-- ---- the curve and the walk

-- the code's number, and how many records a buffer holds
pub record Counted : Type 0 where
  pub number : ℕ
  pub count : ℕ

abbrev pub counted_leaves : ℕ → ℕ → Counted
counted_leaves number count = record { number = number; count = count }

abbrev pub refused_with : Code → Counted
refused_with code = counted_leaves (number_of code) 0

abbrev pub counted_of : Result ℕ Code → Counted
counted_of (Ok n) = counted_leaves 0 n
counted_of (Err code) = refused_with code

abbrev pub counted_path : Curved → Counted
counted_path (path.Points n) = counted_leaves 0 n
counted_path path.Room = refused_with Room

-- the answer and the path's buffer
pub record PathExport : Type 0 where
  pub counted : Counted
  pub path : List Float

abbrev pub path_leaves : Counted → List Float → PathExport
path_leaves counted path = record { counted = counted; path = path }

-- o is the buffer before, which a refusal keeps
abbrev pub traced_path : Traced → Pair → List ℤ → List Float → PathExport
traced_path (Stop code) start ds o = path_leaves (refused_with code) o
traced_path (On run) start ds o = path_leaves (counted_path (curved_of (path_room (length o)) (path_of start ds))) (curved_on (path_room (length o)) (path_of start ds) o)

-- the greatest 64-bit number stands for no limit: it takes 2^40 double deltas to pass it
unfoldable pub path_from : Pair → List ℤ → List Float → PathExport
path_from start ds o = traced_path (trace_of 18446744073709551615 start ds) start ds o

abbrev pub curved_from : Start → List ℤ → List Float → PathExport
curved_from Out ds o = path_leaves (refused_with Position) o
curved_from (At start) ds o = path_from start ds o

abbrev pub counted_walk : Walked → Counted
counted_walk (walk.Points n) = counted_leaves 0 n
counted_walk walk.Room = refused_with Room

-- whether the path has a point, and what is walked of it
abbrev pub walked_along : Bool → Walk → Counted
walked_along false w = refused_with Shape
walked_along true w = counted_walk (walked_of w)

-- o is the buffer before, e after
abbrev pub WalkLeft : Bool → Walk → List Float → List Float → Type 0
WalkLeft false w o e = e ≡ o
WalkLeft true w o e = WalkedOn w o e

-- the code's number and the length
pub record LengthExport : Type 0 where
  pub number : ℕ
  pub length : Float

abbrev pub length_leaves : ℕ → Float → LengthExport
length_leaves number length = record { number = number; length = length }

-- o is the number before, which a refusal keeps
unfoldable pub length_from : ℕ → Float → Float → LengthExport
length_from n last o = cond (leb 2 n) (cond (leb n 8388608) (length_leaves 0 (walk_length n last)) (length_leaves (number_of Shape) o)) (length_leaves (number_of Shape) o)

-- ---- the transform

-- a spline of these rows; its other fields do not enter the sums
abbrev pub spline_of_rows : List Float → List Float → List Float → List Float → Spline
spline_of_rows x y b sigma = record { x = x; y = y; b = b; sigma = sigma; estimate = 0; coincide = false }

abbrev pub four_of : Sums → List Float
four_of s = s.x ∷ s.y ∷ s.b ∷ s.sigma ∷ []

-- ---- segments

pub record Eight : Type 0 where
  pub made : Bool
  pub numbers : List Float

abbrev pub eight_leaves : Bool → List Float → Eight
eight_leaves made numbers = record { made = made; numbers = numbers }

-- the eight floats, or that there are none, and zeros
abbrev pub eight_in : Option Segment → Eight
eight_in (Some segment) = eight_leaves true (eight_of segment)
eight_in None = eight_leaves false (replicate 8 0·0)

abbrev pub two_of : Range → List ℕ
two_of r = r.first ∷ r.past ∷ []

-- ---- the segments of a walk

abbrev pub counted_segments : Filled → Counted
counted_segments (filled.Count n) = counted_leaves 0 n
counted_segments filled.Room = refused_with Room

-- ROOM for a walk of more than 2^23 points, else as there is room for the segments
abbrev pub filled_along : List Float → ℕ → List Segment → Filled
filled_along walk room segs = cond (leb (length walk / 3) 8388608) (filled_of room 0 segs) filled.Room
