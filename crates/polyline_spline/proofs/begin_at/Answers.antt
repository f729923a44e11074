-- `polyline_spline::begin_at` meets its contract: a start is in range.
use mathlib.Core.Path.{sym, ◌∙◌}
use Rattle.control_points.proofs.Starts.{start_valid}
use Rattle.polyline_spline.proofs.begin_at.Goals as goal

pub go_along-requires : goal.go_along-requires
go_along-requires c = start_valid _ _ _ (sym c.starting_point.ensures ∙ c.in_ok-start.ensures.ok_part)
