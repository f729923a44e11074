-- `QuantizedSpline::dequantize` of spline.rs: the start, the control points, then the coefficients and the estimate. Definitions only.
use Rattle.std.specs.Prelude.{ℕ, Bool, false, Result, Ok, Err, List, replicate, ℤ, Float}
use Rattle.numbers.specs.Arith.{0·0}
use Rattle.codes.specs.declared.Code.{Code}
use Rattle.codes.specs.declared.Code.TheVariants.{Position}
use Rattle.control_points.specs.ControlPoints.{starting_point, trace_of}
use Rattle.dequantize.specs.Coefficients.{inv_adjusted_quant, gained_rows}
use Rattle.estimate.specs.Estimate.{estimate_of}
use Rattle.control_points.specs.Answers.{Start, At, Out, Traced, On, Stop}
use Rattle.dequantize.specs.declared.Given.{Given}
use Rattle.dequantize.specs.declared.Spline.{Spline}

-- a row of coefficients that are all 0
abbrev pub zero_row : List Float
zero_row = replicate 32 0·0

-- a spline that is all 0
unfoldable pub no_spline : Spline
no_spline = record { x = zero_row; y = zero_row; b = zero_row; sigma = zero_row; estimate = 0; coincide = false }

-- the spline of an answer: all 0 where it was refused
abbrev pub spline_in : Result Spline Code → Spline
spline_in (Ok s) = s
spline_in (Err code) = no_spline

-- what follows the control points: c the coefficients, and the Manhattan sum
unfoldable pub finished_of : List ℤ → Given → ℕ → Bool → Spline
finished_of c g manhattan coincide =
    let quant = inv_adjusted_quant g.adjustment in
    let rows = gained_rows c quant g.y_to_x g.y_to_b in
    record {
      x = rows.x;
      y = rows.y;
      b = rows.b;
      sigma = rows.sigma;
      estimate = estimate_of c quant g.y_to_x g.y_to_b g.limit manhattan;
      coincide = coincide;
    }

abbrev pub after_trace : List ℤ → Given → Traced → Result Spline Code
after_trace c g (Stop code) = Err code
after_trace c g (On run) = Ok (finished_of c g run.manhattan run.coincide)

abbrev pub after_start : List ℤ → List ℤ → Given → Start → Result Spline Code
after_start ds c g Out = Err Position
after_start ds c g (At start) = after_trace c g (trace_of g.limit start ds)

-- the start, the double deltas, the coefficients, and what all splines share
unfoldable pub dequantize_of : Float → Float → List ℤ → List ℤ → Given → Result Spline Code
dequantize_of x y ds c g = after_start ds c g (starting_point x y)
