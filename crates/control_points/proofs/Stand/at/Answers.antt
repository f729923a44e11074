-- The place is written out as the definition has it.
use mathlib.Core.Path.{refl}
use Rattle.control_points.specs.ControlPoints.{stand_at}
use Rattle.control_points.proofs.Stand.at.Goals as goal

pub returns : goal.returns
unfolding stand_at
returns c = refl
