-- The control points and the rest agree.
use Rattle.replay_splines.proofs.Agreeing.{taken_agrees}
use Rattle.replay_splines.proofs.is_taken.Goals as goal

pub returns : goal.returns
returns c = λ e. taken_agrees _ _ _ _ _ c.count.ensures.0 (c.points_agree_from.ensures c.if-not-points_agree_from.false) (c.is_finished.ensures e)
