-- `polyline_spline::put_points` meets its contract: the start, then the rest.
use native.Mathlib.Omega.{arith}
use Rattle.control_points.specs.ControlPoints.{stand_at}
use Rattle.polyline_spline.proofs.Puts.{points_put}
use Rattle.polyline_spline.proofs.put_points.Goals as goal

pub put_pair-at-requires : goal.put_pair-at-requires
unfolding stand_at
put_pair-at-requires c = (omega arith, c.requires.point)

pub put_rest-requires : goal.put_rest-requires
put_rest-requires c = (rw c.at.ensures c.requires, omega (arith, c.put_pair-at.ensures.2))

pub returns : goal.returns
returns c = points_put _ _ _ _ _ _ c.put_pair-at.ensures _ c.at.ensures _ c.put_rest.ensures
