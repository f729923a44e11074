-- The codes of reading and of writing a text of points, and when each is given: the table of codes, in the order of the checks. Definitions only.
-- That a call refuses exactly so is `read_exactly` of proofs/ReadWhen.antt and `write_exactly` of proofs/WriteWhen.antt.
use Rattle.std.specs.Prelude.{◌≡◌, false, List, ◌⊎◌, ℕ, zero, suc, ◌+◌, ◌-◌, ◌*◌, ◌≤◌, ◌<◌, length, get_or, ℤ, Float}
use Rattle.codes.specs.declared.Code.{Code}
use Rattle.codes.specs.declared.Code.TheVariants.{Text, Position, Coincide, Room, Shape, Delta}
use Rattle.shape.specs.Shape.{Shaped}
use Rattle.list.specs.Steps.{f32_of}
use Rattle.control_points.specs.ControlPoints.{pair_at, starting_point, control_points, adjacent_coincide, trace_of}
use Rattle.dequantize.specs.Judge.{Description, description_of, start_x, start_y, deltas_of}
use Rattle.control_points.specs.Refusals.{Inside, Outside, Small, Large, RoundsTo, Strays, nowhere, delta_at, control_point_at, Adjacent}
use Rattle.control_points.specs.declared.Pair.{Pair}
use Rattle.control_points.specs.declared.Run.{Run}
use Rattle.control_points.specs.Answers.{At}
use Rattle.control_points.specs.Answers.{On}
use Rattle.polyline.specs.Form.{PointsForm}
use Rattle.polyline.specs.Read.{minus_of}
use Rattle.polyline.specs.Write.{points_text}
use Rattle.polyline_laws.specs.Begins.{FirstBad}
use Rattle.polyline_laws.specs.Says.{Says, first_byte}

-- ---- reading: the pairs of a text

abbrev pub point_in : List Pair → ℕ → Pair
point_in ps j = get_or ps j nowhere

-- the delta that leads to the pair behind pair j
abbrev pub delta_from : List Pair → ℕ → Pair
delta_from ps j = minus_of (point_in ps (suc j)) (point_in ps j)

-- pair j, and behind the first the delta to it, are in range, or one of them is not
abbrev pub Placed : List Pair → ℕ → Type 0
Placed ps zero = Inside (point_in ps 0)
Placed ps (suc j) = Inside (delta_from ps j) × Inside (point_in ps (suc j))

abbrev pub Misplaced : List Pair → ℕ → Type 0
Misplaced ps zero = Outside (point_in ps 0)
Misplaced ps (suc j) = Outside (delta_from ps j) ⊎ Outside (point_in ps (suc j))

-- pair j is the pair before it again
abbrev pub Again : List Pair → ℕ → Type 0
Again ps zero = ⊥
Again ps (suc j) = point_in ps j ≡ point_in ps (suc j)

-- neither POSITION nor COINCIDE at pair j
pub record Passes (ps : List Pair) (j : ℕ) : Type 0 where
  pub placed : Placed ps j
  pub apart : Again ps j → ⊥

-- the pairs before pair j pass
abbrev pub Before : List Pair → ℕ → Type 0
Before ps j = (i : ℕ) → i < j → Passes ps i

-- a buffer is too short: 2 cells of start, and 2 for each pair behind the first
abbrev pub PointsLack : ℕ → ℕ → List Pair → Type 0
PointsLack start deltas ps = (start < 2) ⊎ (deltas < 2 * (length ps - 1))

-- the table of reading, with so many cells of start and of double deltas lent: the code and the place, when
pub data PointsReadRefusal (text : List ℕ) (start deltas : ℕ) : Code → ℕ → Type 0 where
  -- 18: the first byte that no text of the form could have there, or the end of a text that stops early
  bad : (p : ℕ) → FirstBad text p → PointsReadRefusal text start deltas Text p
  -- 10: pair j is the first that does not pass, and it or the delta to it is out of range
  position : (ps : List Pair) → Says text ps → (j : ℕ) → j < length ps → Before ps j → Misplaced ps j → PointsReadRefusal text start deltas Position (first_byte ps j)
  -- 13: pair j is the first that does not pass, is in range, and is the pair before it again
  coincide : (ps : List Pair) → Says text ps → (j : ℕ) → j < length ps → Before ps j → Placed ps j → Again ps j → PointsReadRefusal text start deltas Coincide (first_byte ps j)
  -- 7: all pairs pass, and a buffer is too short
  room : (ps : List Pair) → Says text ps → Before ps (length ps) → PointsLack start deltas ps → PointsReadRefusal text start deltas Room 0

-- ---- reading: what is accepted

-- building finds a spline's points legal apart from distance and area: it begins at the start, which it takes from two floats; under some area limit no double delta, delta or point on the way stops it;
-- and no two adjacent control points coincide
pub record Legal (start : Pair) (ds : List ℤ) : Type 0 where
  pub begins : starting_point (f32_of start.x) (f32_of start.y) ≡ At start
  pub limit : ℕ
  pub run : Run
  pub traced : trace_of limit start ds ≡ On run
  pub apart : adjacent_coincide (control_points start ds) ≡ false

-- 0: the text has the form, its points are the control points of a start and n double deltas that building finds legal, and there is room
pub record PointsAccepted (text : List ℕ) (start deltas n : ℕ) : Type 0 where
  pub form : PointsForm text
  pub first : Pair
  pub ds : List ℤ
  pub says : text ≡ points_text (control_points first ds)
  pub pairs : length ds ≡ 2 * n
  pub legal : Legal first ds
  pub start_room : 2 ≤ start
  pub deltas_room : 2 * n ≤ deltas

-- ---- writing: the spline k

module _ (start : Pair) (ds : List ℤ) (j : ℕ) where
  -- pair j of the double deltas passes its checks, which are building's but for DISTANCE
  pub record StepPasses : Type 0 where
    pub small : Small (pair_at ds j)
    pub delta : Inside (delta_at ds j)
    pub point : Inside (control_point_at start ds j)

  -- the first of its checks that fails
  pub data StepRefusal : Code → Type 0 where
    -- 5: a double delta of magnitude 2^30 or more
    delta_large : Large (pair_at ds j) → StepRefusal Delta
    -- 10: the delta, then the point
    delta_outside : Small (pair_at ds j) → Outside (delta_at ds j) → StepRefusal Position
    point_outside : Small (pair_at ds j) → Inside (delta_at ds j) → Outside (control_point_at start ds j) → StepRefusal Position

-- lengths agree, and there is a spline k
pub record There (ns : List ℕ) (ss : List Float) (ds cs : List ℤ) (k : ℕ) : Type 0 where
  pub shaped : Shaped ns ss ds cs
  pub inside : k < length ns

-- the spline k begins at a start, and all its pairs pass
pub record Goes (d : Description) (k : ℕ) : Type 0 where
  pub start : Pair
  pub x : RoundsTo (start_x d k) start.x
  pub y : RoundsTo (start_y d k) start.y
  pub pairs : (j : ℕ) → 2 * j + 2 ≤ length (deltas_of d k) → StepPasses start (deltas_of d k) j

-- its control points
abbrev pub points_by : (d : Description) (k : ℕ) → Goes d k → List Pair
points_by d k g = control_points g.start (deltas_of d k)

-- the table of writing, with so many bytes lent: the code and the place, when
pub data PointsWriteRefusal (ns : List ℕ) (ss : List Float) (ds cs : List ℤ) (k room : ℕ) : Code → ℕ → Type 0 where
  -- 9: lengths disagree, or there is no such spline
  shape : (There ns ss ds cs k → ⊥) → PointsWriteRefusal ns ss ds cs k room Shape 0
  -- 10: a start that is NaN or outside
  start : There ns ss ds cs k → Strays (start_x (description_of ns ss ds cs) k) ⊎ Strays (start_y (description_of ns ss ds cs) k) → PointsWriteRefusal ns ss ds cs k room Position k
  -- 5, 10: pair j is the first that does not pass
  pair : (c : Code) → There ns ss ds cs k → (p : Pair) → RoundsTo (start_x (description_of ns ss ds cs) k) p.x → RoundsTo (start_y (description_of ns ss ds cs) k) p.y
      → (j : ℕ) → 2 * j + 2 ≤ length (deltas_of (description_of ns ss ds cs) k) → ((i : ℕ) → i < j → StepPasses p (deltas_of (description_of ns ss ds cs) k) i)
      → StepRefusal p (deltas_of (description_of ns ss ds cs) k) j c → PointsWriteRefusal ns ss ds cs k room c k
  -- 13: all pairs pass, and two adjacent control points are equal
  coincide : There ns ss ds cs k → (g : Goes (description_of ns ss ds cs) k) → Adjacent (points_by (description_of ns ss ds cs) k g) → PointsWriteRefusal ns ss ds cs k room Coincide k
  -- 7: nothing else is given, and the bytes are too few
  room : There ns ss ds cs k → (g : Goes (description_of ns ss ds cs) k) → (Adjacent (points_by (description_of ns ss ds cs) k g) → ⊥)
      → room < length (points_text (points_by (description_of ns ss ds cs) k g)) → PointsWriteRefusal ns ss ds cs k room Room k

-- 0: nothing is given, and the text of its control points is written, n bytes
pub record PointsWritten (ns : List ℕ) (ss : List Float) (ds cs : List ℤ) (k room n : ℕ) : Type 0 where
  pub there : There ns ss ds cs k
  pub goes : Goes (description_of ns ss ds cs) k
  pub apart : Adjacent (points_by (description_of ns ss ds cs) k goes) → ⊥
  pub held : length (points_text (points_by (description_of ns ss ds cs) k goes)) ≤ room
  pub all : n ≡ length (points_text (points_by (description_of ns ss ds cs) k goes))
