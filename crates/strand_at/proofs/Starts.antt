-- The start of an accepted spline: its control points may be gone through from it.
use mathlib.Core.Path.{◌≡◌, sym, ◌∙◌, subst}
use mathlib.Core.List.{List}
use lib.IntN.{ℤ}
use lib.Ieee.{Float}
use Rattle.dequantize.specs.declared.Given.{Given}
use Rattle.control_points.specs.declared.Pair.{Pair}
use Rattle.control_points.specs.Answers.{Start, At}
use Rattle.control_points.specs.ControlPoints.{starting_point, stand_at}
use Rattle.control_points.specs.Asked.{Passable}
use Rattle.dequantize.specs.Asked.{SplineAccepted}

pub start_walk : (x y : Float) (ds c : List ℤ) (g : Given) → SplineAccepted x y ds c g → {r : Start} (start : Pair) → r ≡ starting_point x y → r ≡ At start → Passable (stand_at start) ds
start_walk x y ds c g a {r} start p q =
    let e : At a.start ≡ At start = sym a.begins ∙ sym p ∙ q in
    let s : a.start ≡ start = cc in
    subst (λ (t : Pair). Passable (stand_at t) ds) s a.walk

-- Assumes nothing.
