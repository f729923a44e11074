-- `polyline_spline::go_on` meets its contract: the sums fit, and the machine's equality of two points in range is that of points.
use mathlib.Core.Path.{sym, ◌∙◌}
use Rattle.control_points.proofs.Pairs.{double_delta_fine, point_fine}
use Rattle.polyline_pairs.proofs.Numbers.{same_is}
use Rattle.polyline_spline.proofs.Goes.{gone_on}
use Rattle.polyline_spline.proofs.go_on.Goals as goal

pub add-delta-requires : goal.add-delta-requires
add-delta-requires c = (point_fine _ c.requires.delta, double_delta_fine _ (sym c.if-not-valid_double_delta.ensures))

pub add-point-requires : goal.add-point-requires
add-point-requires c = (point_fine _ c.requires.point, point_fine _ (sym c.if-not-valid_point_pos.ensures))

pub returns-else-met : goal.returns-else-met
returns-else-met c =
    let A = c.args in
    let same = same_is A.place.point c.add-point.result c.requires.point (sym c.if-not-valid_point_pos-2.ensures) in
    gone_on A.place A.met A.dd (sym c.if-not-valid_double_delta.ensures) _ c.add-delta.ensures (sym c.if-not-valid_point_pos.ensures) _ c.add-point.ensures (sym c.if-not-valid_point_pos-2.ensures) c.eq.result _ (c.eq.ensures ∙ same) (rw c.if-met.false)
