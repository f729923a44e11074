-- The start decides.
use mathlib.Core.Path.{sym, ◌∙◌}
use Rattle.control_points.proofs.Starts.{start_valid}
use Rattle.replay_splines.proofs.Agreeing.{from_start}
use Rattle.replay_splines.proofs.points_agree_from.Goals as goal

pub points_agree-requires : goal.points_agree-requires
points_agree-requires c = start_valid _ _ _ (sym c.starting_point.ensures ∙ c.in-Some.is)

pub returns-in-Some : goal.returns-in-Some
returns-in-Some c = λ e. from_start _ _ _ _ (sym c.starting_point.ensures ∙ c.in-Some.is) (c.points_agree.ensures e)
