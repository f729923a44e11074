-- The trace says where the double deltas lead.
use mathlib.Core.Path.{sym, ◌∙◌}
use Rattle.replay_splines.proofs.leads_to.Goals as goal

pub returns-in-Ok : goal.returns-in-Ok
returns-in-Ok c = λ e. record { run = _; traced = sym c.trace.ensures ∙ c.in-Ok.is; point = c.is_point.ensures e }
