-- That a start, told by kind, is the number of Rust's `as`, which saturates and makes a NaN 0. Definitions only.
use Rattle.std.specs.Prelude.{◌≡◌, cond, ℤ, Float}
use Rattle.std.specs.Float.{binary32}
use Rattle.std.specs.Float.Ieee.{is_nan, to_signed}
use Rattle.wholes.specs.Whole.{round_of}
use Rattle.control_points.specs.ControlPoints.{in_range, rounded_of}
use Rattle.control_points.specs.Answers.{Coordinate, At, Out}

-- a whole number that is a coordinate where it is in the range
abbrev pub taken : ℤ → Coordinate
taken z = cond (in_range z) (At z) Out

-- a coordinate of a start: none where it is NaN
abbrev pub StartByKind : Type 0
StartByKind = (x : Float) → rounded_of x ≡ cond (is_nan x) Out (taken (to_signed 31 (round_of binary32 x)))
