-- Readings of the scope on control points, computed.
use mathlib.Core.Path.{◌≡◌, refl}
use mathlib.Core.Bool.{true, false}
use mathlib.Core.List.{[], ◌∷◌}
use lib.IntN.{pos, negsuc}
use lib.Ieee.{fin, of_bits, of_int, sub, lt, round}
use Rattle.codes.specs.declared.Code.TheVariants.{Delta, Position, Distance}
use Rattle.numbers.specs.Magnitude.{abs_of}
use Rattle.wholes.specs.Whole.{whole_by}
use Rattle.kinds.specs.Kind.{kind_by}
use Rattle.control_points.specs.ControlPoints.{starting_point, rounded_of, trace_of, trace_from, step_of, run_at, plus_of, valid_double_delta, valid_point_pos, manhattan_of, same_point, near}
use Rattle.control_points.specs.declared.Pair.{Pair}
use Rattle.control_points.specs.Answers.{At, Out, On, Stop}

abbrev pub origin : Pair
origin = record { x = pos 0; y = pos 0 }

-- double deltas (1, 0), (-1, 0): the second delta is nothing, so two adjacent points are the same
pub coincide_reading : trace_of 1000000 origin (pos 1 ∷ pos 0 ∷ negsuc 0 ∷ pos 0 ∷ [])
    ≡ On (record { delta = origin; point = record { x = pos 1; y = pos 0 }; manhattan = 1; coincide = true })
unfolding trace_of trace_from step_of run_at plus_of valid_double_delta valid_point_pos manhattan_of same_point near of_bits of_int sub lt abs_of
coincide_reading = refl

-- start 8388607, then delta 1
pub position_reading : trace_of 1000000 (record { x = pos 8388607; y = pos 0 }) (pos 1 ∷ pos 0 ∷ []) ≡ Stop Position
unfolding trace_of trace_from step_of run_at plus_of valid_double_delta valid_point_pos manhattan_of
position_reading = refl

-- a start of -8388608 is a place, and one of 8388608 is not
pub lowest_reading : starting_point (fin true 1 (pos 23)) (fin false 0 (pos 0)) ≡ At (record { x = negsuc 8388607; y = pos 0 })
unfolding starting_point rounded_of whole_by kind_by round
lowest_reading = refl

pub highest_reading : starting_point (fin false 1 (pos 23)) (fin false 0 (pos 0)) ≡ Out
unfolding starting_point rounded_of whole_by kind_by round
highest_reading = refl

pub delta_reading : trace_of 1000000 origin (pos 1073741824 ∷ pos 0 ∷ []) ≡ Stop Delta
unfolding trace_of trace_from step_of run_at plus_of valid_double_delta valid_point_pos manhattan_of
delta_reading = refl

-- a delta of 2^23 is refused for its position before it is for its distance
pub order_reading : trace_of 1000000 origin (pos 8388608 ∷ pos 0 ∷ []) ≡ Stop Position
unfolding trace_of trace_from step_of run_at plus_of valid_double_delta valid_point_pos manhattan_of
order_reading = refl

pub distance_reading : trace_of 1000000 origin (pos 1000001 ∷ pos 0 ∷ []) ≡ Stop Distance
unfolding trace_of trace_from step_of run_at plus_of valid_double_delta valid_point_pos manhattan_of
distance_reading = refl

-- Assumes nothing.
