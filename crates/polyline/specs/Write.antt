-- Writing the control points of one spline as a points text: decimal numbers, the text of points, the checks in building's order, and what a call of `points_write` leaves.
use Rattle.std.specs.Prelude.{Bool, true, false, cond, ◌||◌, List, [], ◌∷◌, ◌++◌, ℕ, zero, suc, ◌+◌, ◌/◌, ◌%◌, ltb, leb, length, ℤ, pos, negsuc, Float}
use Rattle.codes.specs.declared.Code.TheVariants.{Room, Shape, Delta, Position, Coincide}
use Rattle.writer.specs.Write.{misshapen, WriteOutcome}
use Rattle.writer.specs.Write as writing
use Rattle.write_judge.specs.Verdict.{Verdict}
use Rattle.write_judge.specs.Verdict.{Fine, Fault}
use Rattle.control_points.specs.ControlPoints.{valid_point_pos, valid_double_delta, same_point, starting_point, stand_at, moved_of, control_points}
use Rattle.dequantize.specs.Judge.{Description, description_of, start_x, start_y, deltas_of}
use Rattle.control_points.specs.declared.Pair.{Pair}
use Rattle.control_points.specs.declared.Stand.{Stand}
use Rattle.control_points.specs.Answers.{Start}
use Rattle.control_points.specs.Answers as S
use Rattle.polyline.specs.Gone.{Gone, On, Stop}
use Rattle.polyline.specs.Read.{and_then}

-- ---- decimal numbers

-- the digits of a number, the last behind those of its tenth part; more than n tenth parts are never taken of n
unfoldable pub digits_by : ℕ → ℕ → List ℕ
digits_by zero n = []
digits_by (suc k) n = cond (ltb n 10) ((48 + n) ∷ []) (digits_by k (n / 10) ++ ((48 + n % 10) ∷ []))

unfoldable pub digits_of : ℕ → List ℕ
digits_of n = digits_by (suc n) n

unfoldable pub number_text : ℤ → List ℕ
number_text (pos n) = digits_of n
number_text (negsuc n) = 45 ∷ digits_of (suc n)

-- ---- the text of points

unfoldable pub pair_text : Pair → List ℕ
pair_text p = number_text p.x ++ 44 ∷ number_text p.y

-- points behind others
unfoldable pub later_text : List Pair → List ℕ
later_text [] = []
later_text (p ∷ ps) = 32 ∷ pair_text p ++ later_text ps

unfoldable pub points_text : List Pair → List ℕ
points_text [] = []
points_text (p ∷ ps) = pair_text p ++ later_text ps

-- ---- the checks of one spline

-- one double delta, as `step_of` of building has it but for DISTANCE: DELTA, POSITION of the delta, POSITION of the point
unfoldable pub gone_by : Stand → Bool → Pair → Gone
gone_by p met dd =
    let q = moved_of p dd in
    cond (valid_double_delta dd) (cond (valid_point_pos q.delta) (cond (valid_point_pos q.point)
    (On q (cond met true (same_point p.point q.point))) (Stop Position)) (Stop Position)) (Stop Delta)

abbrev pub onward : Gone → (Stand → Bool → Gone) → Gone
onward (On p met) go = go p met
onward (Stop code) go = Stop code

unfoldable pub gone_from : Stand → Bool → List ℤ → Gone
gone_from p met [] = On p met
gone_from p met (a ∷ []) = On p met
gone_from p met (a ∷ b ∷ ds) = onward (gone_by p met (record { x = a; y = b })) (λ q m. gone_from q m ds)

unfoldable pub gone_of : Pair → List ℤ → Gone
gone_of start ds = gone_from (stand_at start) false ds

-- COINCIDE comes after all points, as in building
abbrev pub settled : ℕ → Gone → Verdict
settled k (On p met) = cond met (Fault Coincide k) Fine
settled k (Stop code) = Fault code k

abbrev pub begun : ℕ → List ℤ → Start → Verdict
begun k ds S.Out = Fault Position k
begun k ds (S.At start) = settled k (gone_of start ds)

-- the spline k of a description
unfoldable pub spline_verdict : Description → ℕ → Verdict
spline_verdict d k = begun k (deltas_of d k) (starting_point (start_x d k) (start_y d k))

abbrev pub text_at : List ℤ → Start → List ℕ
text_at ds S.Out = []
text_at ds (S.At start) = points_text (control_points start ds)

-- its text
unfoldable pub spline_text : Description → ℕ → List ℕ
spline_text d k = text_at (deltas_of d k) (starting_point (start_x d k) (start_y d k))

-- lengths disagree, or there is no such spline
unfoldable pub no_spline : List ℕ → List Float → List ℤ → List ℤ → ℕ → Bool
no_spline ns ss ds cs k = misshapen ns ss ds cs || leb (length ns) k

-- SHAPE, then the spline's own checks, then ROOM
unfoldable pub write_verdict : List ℕ → List Float → List ℤ → List ℤ → ℕ → ℕ → Verdict
write_verdict ns ss ds cs k room =
    cond (no_spline ns ss ds cs k) (Fault Shape 0)
    (and_then (spline_verdict (description_of ns ss ds cs) k) (cond (ltb room (length (spline_text (description_of ns ss ds cs) k))) (Fault Room k) Fine))

-- what `points_write` answers and leaves in so many bytes
unfoldable pub write_points_of : List ℕ → List Float → List ℤ → List ℤ → ℕ → ℕ → WriteOutcome
write_points_of ns ss ds cs k room = writing.outcome room (spline_text (description_of ns ss ds cs) k) (write_verdict ns ss ds cs k room)
