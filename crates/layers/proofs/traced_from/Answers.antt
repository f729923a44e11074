-- A start that was not refused is a place.
use Rattle.std.proofs.Common.{sym, ◌∙◌}
use Rattle.control_points.proofs.Starts.{start_valid}
use Rattle.layers.proofs.Turned.{was_at}
use Rattle.layers.proofs.traced_from.Goals as goal

pub trace-requires : goal.trace-requires
trace-requires c = start_valid _ _ _ (sym c.starting_point.ensures ∙ was_at _ _ (sym c.ok_or.ensures.value ∙ c.in_ok-start.was))
