-- What it means that the definitions of one spline agree with a stored case: vectors/README.md has the words. Definitions only.
use Rattle.std.specs.Prelude.{◌≡◌, List, ℕ, ◌+◌, ◌-◌, ◌*◌, ◌/◌, ◌<◌, eqb, ℤ, length, get_or, take, drop, replicate, Result, Ok, Err}
use Rattle.std.specs.Float.{binary32}
use Rattle.std.specs.Float.Ieee.{of_bits, of_int}
use Rattle.codes.specs.Codes.{number_of}
use Rattle.codes.specs.declared.Code.{Code}
use Rattle.dequantize.specs.declared.Given.{Given}
use Rattle.dequantize.specs.declared.Spline.{Spline}
use Rattle.control_points.specs.declared.Pair.{Pair}
use Rattle.control_points.specs.declared.Run.{Run}
use Rattle.control_points.specs.Answers.{Start, At, Out, On}
use Rattle.dequantize.specs.Coefficients.{table}
use Rattle.control_points.specs.ControlPoints.{trace_of}
use Rattle.numbers.specs.Arith.{f}
use Rattle.curve.specs.Curved.{Points}
use Rattle.curve.specs.Curve.{path_of, curved_of, curved_on}
use Rattle.stored.specs.Stored.{float_in, signed_in, long_in, refusal_word, Begins}

-- the words from a up to b
abbrev pub part : ℕ → ℕ → List ℕ → List ℕ
part a b words = take (b - a) (drop a words)

-- ---- the control points

-- a control point as the bits of two floats
pub record IsPoint (p : Pair) (x y : ℕ) : Type 0 where
  pub x_is : of_int binary32 p.x ≡ of_bits binary32 x
  pub y_is : of_int binary32 p.y ≡ of_bits binary32 y

-- the double deltas are taken, and lead to that point
pub record LeadsTo (limit : ℕ) (start : Pair) (ds : List ℤ) (x y : ℕ) : Type 0 where
  pub run : Run
  pub traced : trace_of limit start ds ≡ On run
  pub point : IsPoint run.point x y

-- each control point is where the double deltas before it lead
pub record PointsAgree (limit : ℕ) (start : Pair) (ds : List ℤ) (words : List ℕ) : Type 0 where
  pub each : (k : ℕ) → k < length words / 2 → LeadsTo limit start (take (2 * k) ds) (get_or words (2 * k) 0) (get_or words (2 * k + 1) 0)

abbrev pub PointsFrom : ℕ → Start → List ℤ → List ℕ → Type 0
PointsFrom limit Out ds words = ⊥
PointsFrom limit (At start) ds words = PointsAgree limit start ds words

-- ---- dequantizing

-- the four rows of a spline, its estimate, and whether two adjacent control points are the same
pub record RowsAgree (s : Spline) (words : List ℕ) : Type 0 where
  pub x : Begins s.x (part 0 32 words)
  pub y : Begins s.y (part 32 64 words)
  pub b : Begins s.b (part 64 96 words)
  pub sigma : Begins s.sigma (part 96 128 words)
  pub estimate : s.estimate ≡ long_in (part 128 130 words) 0
  pub coincide : eqb (get_or words 130 0) 1 ≡ s.coincide

-- a spline that was taken: the number of control points, the points, the rest
pub record TakenAgrees (limit : ℕ) (start : Start) (ds : List ℤ) (s : Spline) (output : List ℕ) : Type 0 where
  pub points : PointsFrom limit start ds (part 2 (2 + 2 * get_or output 1 0) output)
  pub rows : RowsAgree s (part (2 + 2 * get_or output 1 0) (length output) output)

-- 0 and what follows it, or the code of a refusal
abbrev pub DequantizeAgrees : ℕ → Start → List ℤ → Result Spline Code → List ℕ → Type 0
DequantizeAgrees limit start ds (Ok s) output = (get_or output 0 0 ≡ 0) × TakenAgrees limit start ds s output
DequantizeAgrees limit start ds (Err code) output = refusal_word (number_of code) ≡ get_or output 0 0

-- ---- the curve

-- as many numbers
pub record Sized (xs : List ℤ) (n : ℕ) : Type 0 where
  pub size : length xs ≡ n

-- the path in 256 cells: as many points as the words have, and their floats
pub record PathAgrees (start : Pair) (ds : List ℤ) (output : List ℕ) : Type 0 where
  pub count : Points (length output / 2) ≡ curved_of 128 (path_of start ds)
  pub path : Begins (curved_on 128 (path_of start ds) (replicate 256 (f 0))) output

-- a spline whose control points are those of the case, and its path
pub record CurveAgrees (points output : List ℕ) : Type 0 where
  pub start : Pair
  pub deltas : List ℤ
  pub size : length points / 2 ≡ length deltas / 2 + 1
  pub controls : PointsAgree 1099511627776 start deltas points
  pub path : PathAgrees start deltas output

-- ---- the input

abbrev pub given_in : List ℕ → Given
given_in input = record { adjustment = signed_in input 2; y_to_x = float_in input 3; y_to_b = float_in input 4; limit = long_in input 0 }

-- where the double deltas of a case end
abbrev pub deltas_end : List ℕ → ℕ
deltas_end input = 8 + 2 * get_or input 7 0

-- the double deltas, among 64 cells, and the coefficients
abbrev pub deltas_in : List ℕ → List ℤ
deltas_in input = take (2 * get_or input 7 0) (table (signed_in (part 8 (deltas_end input) input)) 64)

abbrev pub coefficients_in : List ℕ → List ℤ
coefficients_in input = table (signed_in (part (deltas_end input) (length input) input)) 128
