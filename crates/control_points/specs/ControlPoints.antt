-- The control points of a spline, as `dequantize` of spline.rs makes and checks them, and the test of `validate_adjacent_point_coincidence`. Definitions only.
-- They are whole numbers, as current_x and current_y are there; spline.rs keeps them as pairs of f32, which `near` compares.
use Rattle.std.specs.Prelude.{Bool, true, false, cond, List, [], ◌∷◌, ℕ, ◌+◌, ◌*◌, leb, get_or, ℤ, pos, negsuc, nat_abs, ◌+ℤ◌, Float}
use Rattle.std.specs.Int.Signed.{le_z, lt_z}
use Rattle.std.specs.Float.{binary32}
use Rattle.std.specs.Float.Ieee.{lt, of_int}
use Rattle.numbers.specs.Arith.{f, ◌⊖◌}
use Rattle.wholes.specs.Whole.{round_of}
use Rattle.kinds.specs.Kind.{cut_i32}
use Rattle.kinds.specs.declared.Kind.{Kind}
use Rattle.kinds.specs.declared.Kind.TheVariants as K
use Rattle.numbers.specs.Magnitude.{abs_of}
use Rattle.codes.specs.declared.Code.{Code}
use Rattle.codes.specs.declared.Code.TheVariants.{Delta, Position, Distance}
use Rattle.control_points.specs.declared.Pair.{Pair}
use Rattle.control_points.specs.declared.Stand.{Stand}
use Rattle.control_points.specs.Answers.{Coordinate, Start, At, Out, Traced, On, Stop}
use Rattle.control_points.specs.declared.Run.{Run}

-- ---- the two limits

-- from -2^23 up to but not including 2^23
abbrev pub in_range : ℤ → Bool
in_range v = cond (le_z (negsuc 8388607) v) (lt_z v (pos 8388608)) false

-- a magnitude below 2^30
abbrev pub below_delta_limit : ℤ → Bool
below_delta_limit v = cond (lt_z (negsuc 1073741823) v) (lt_z v (pos 1073741824)) false

-- `validate_spline_point_pos`, x then y
unfoldable pub valid_point_pos : Pair → Bool
valid_point_pos p = cond (in_range p.x) (in_range p.y) false

unfoldable pub valid_double_delta : Pair → Bool
valid_double_delta p = cond (below_delta_limit p.x) (below_delta_limit p.y) false

-- ---- pairs

unfoldable pub plus_of : Pair → Pair → Pair
plus_of p q = record { x = p.x +ℤ q.x; y = p.y +ℤ q.y }

-- both magnitudes
unfoldable pub manhattan_of : Pair → ℕ
manhattan_of p = nat_abs p.x + nat_abs p.y

-- the pair k of a list that holds two numbers a pair
unfoldable pub pair_at : List ℤ → ℕ → Pair
pair_at l k = record { x = get_or l (2 * k) (pos 0); y = get_or l (2 * k + 1) (pos 0) }

-- ---- the start

-- a coordinate by its kind: an exact number in the range is one
abbrev pub coordinate_by : Kind ℤ → Coordinate
coordinate_by (K.Exact z) = cond (in_range z) (At z) Out
coordinate_by K.NotNumber = Out
coordinate_by K.Below = Out
coordinate_by K.Above = Out

-- `x.round()` as an i32, where it is in the range; a NaN is not
unfoldable pub rounded_of : Float → Coordinate
rounded_of x = coordinate_by (cut_i32 (round_of binary32 x))

abbrev pub joined : Coordinate → Coordinate → Start
joined Out q = Out
joined (At a) Out = Out
joined (At a) (At b) = At (record { x = a; y = b })

unfoldable pub starting_point : Float → Float → Start
starting_point x y = joined (rounded_of x) (rounded_of y)

-- ---- the points

-- where all begins: no delta yet
unfoldable pub stand_at : Pair → Stand
stand_at start = record { delta = record { x = pos 0; y = pos 0 }; point = start }

-- one double delta on: it is added to the delta, and the delta to the point
unfoldable pub moved_of : Stand → Pair → Stand
moved_of p dd = let delta = plus_of p.delta dd in record { delta = delta; point = plus_of p.point delta }

-- the points after a place, one for each double delta
unfoldable pub later_points : Stand → List ℤ → List Pair
later_points p [] = []
later_points p (a ∷ []) = []
later_points p (a ∷ b ∷ ds) = let q = moved_of p (record { x = a; y = b }) in q.point ∷ later_points q ds

unfoldable pub control_points : Pair → List ℤ → List Pair
control_points start ds = start ∷ later_points (stand_at start) ds

-- ---- COINCIDE

abbrev 1e-3 : Float
1e-3 = f 0x3a83126f

-- (a - b).abs() < 1e-3, of two whole numbers as f32
unfoldable pub near : ℤ → ℤ → Bool
near a b = lt (abs_of (of_int binary32 a ⊖ of_int binary32 b)) 1e-3

-- `==` of two points
unfoldable pub same_point : Pair → Pair → Bool
same_point p q = cond (near p.x q.x) (near p.y q.y) false

-- whether a point, or one of those after it, is the same as the next
unfoldable pub coincide_from : Pair → List Pair → Bool
coincide_from p [] = false
coincide_from p (q ∷ l) = cond (same_point p q) true (coincide_from q l)

unfoldable pub adjacent_coincide : List Pair → Bool
unfolding coincide_from
adjacent_coincide [] = false
adjacent_coincide (p ∷ l) = coincide_from p l

-- ---- all checks in their order

abbrev pub or_stop : Bool → Code → Traced → Traced
or_stop true code t = t
or_stop false code t = Stop code

-- one double delta: DELTA, POSITION of the delta, DISTANCE, POSITION of the point
unfoldable pub step_of : ℕ → Run → Pair → Traced
step_of limit r dd =
    let delta = plus_of r.delta dd in
    let manhattan = r.manhattan + manhattan_of delta in
    let point = plus_of r.point delta in
    or_stop (valid_double_delta dd) Delta
    (or_stop (valid_point_pos delta) Position
    (or_stop (leb manhattan limit) Distance
    (or_stop (valid_point_pos point) Position
    (On (record { delta = delta; point = point; manhattan = manhattan; coincide = cond r.coincide true (same_point r.point point) })))))

abbrev pub onward : Traced → (Run → Traced) → Traced
onward (On r) k = k r
onward (Stop code) k = Stop code

unfoldable pub trace_from : ℕ → Run → List ℤ → Traced
unfolding step_of
trace_from limit r [] = On r
trace_from limit r (a ∷ []) = On r
trace_from limit r (a ∷ b ∷ ds) = onward (step_of limit r (record { x = a; y = b })) (λ s. trace_from limit s ds)

unfoldable pub run_at : Pair → Run
run_at start = record { delta = record { x = pos 0; y = pos 0 }; point = start; manhattan = 0; coincide = false }

-- the run after all double deltas, or the first refusal
unfoldable pub trace_of : ℕ → Pair → List ℤ → Traced
trace_of limit start ds = trace_from limit (run_at start) ds
