-- What the code asks for in its contracts: a spline that was accepted. Definitions only.
use Rattle.std.specs.Prelude.{◌≡◌, Ok, List, ℤ, Float}
use Rattle.control_points.specs.ControlPoints.{starting_point, stand_at, control_points, adjacent_coincide, trace_of}
use Rattle.control_points.specs.Asked.{Passable}
use Rattle.control_points.specs.declared.Pair.{Pair}
use Rattle.control_points.specs.declared.Run.{Run}
use Rattle.control_points.specs.Answers.{At, On}
use Rattle.dequantize.specs.Dequantize.{finished_of, dequantize_of, spline_in}
use Rattle.dequantize.specs.declared.Given.{Given}

-- its start is a place and its trace ends well, so it is dequantized whole, and its control points may be gone through again
pub record SplineAccepted (x y : Float) (ds c : List ℤ) (g : Given) : Type 0 where
  pub start : Pair
  pub run : Run
  pub begins : starting_point x y ≡ At start
  pub traced : trace_of g.limit start ds ≡ On run
  pub is : dequantize_of x y ds c g ≡ Ok (finished_of c g run.manhattan run.coincide)
  pub walk : Passable (stand_at start) ds
  pub coincide : (spline_in (dequantize_of x y ds c g)).coincide ≡ adjacent_coincide (control_points start ds)
