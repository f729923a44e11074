-- The start decides.
use mathlib.Core.Path.{sym, ◌∙◌}
use Rattle.control_points.proofs.Starts.{start_valid}
use Rattle.replay_splines.proofs.is_curve.Goals as goal

pub is_curve_from-requires : goal.is_curve_from-requires
is_curve_from-requires c = (start_valid _ _ _ (sym c.starting_point.ensures ∙ c.in-Some.is), c.requires)

pub returns-in-Some : goal.returns-in-Some
returns-in-Some c = c.is_curve_from.ensures
