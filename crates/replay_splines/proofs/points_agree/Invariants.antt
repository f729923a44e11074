-- The first k control points agree.
use Rattle.replay_splines.proofs.Agreeing.{Led}
use Rattle.replay_splines.proofs.points_agree.Given as goal

abbrev pub invariant-loop-k : goal.invariant-loop-k
invariant-loop-k l = Led l.limit l.start l.deltas l.points l.k
