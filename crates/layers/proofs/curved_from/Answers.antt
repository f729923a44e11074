-- A start that was not refused is a place.
use Rattle.std.proofs.Common.{sym, ◌∙◌}
use Rattle.control_points.proofs.Starts.{start_valid}
use Rattle.layers.proofs.Turned.{was_at}
use Rattle.layers.proofs.curved_from.Goals as goal

pub path_from-requires : goal.path_from-requires
path_from-requires c = start_valid _ _ _ (sym c.starting_point.ensures ∙ was_at _ _ (sym c.ok_or.ensures.value ∙ c.in_ok-start.was))
