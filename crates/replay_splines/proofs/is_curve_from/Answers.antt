-- The control points and the path agree.
use Rattle.replay_splines.proofs.is_curve_from.Goals as goal

pub returns : goal.returns
returns c = λ e. record { start = _; deltas = _; size = c.requires.1; controls = c.points_agree.ensures c.if-not-points_agree.false; path = c.is_path.ensures e }
