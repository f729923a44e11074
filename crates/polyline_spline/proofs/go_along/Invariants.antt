-- `polyline_spline::go_along` meets its contract: before each double delta, what is left leads where the whole does.
use Rattle.polyline_spline.proofs.Goes.{Along}
use Rattle.polyline_spline.proofs.go_along.Given as goal

abbrev pub invariant-loop-k : goal.invariant-loop-k
invariant-loop-k l = Along l.initial.place l.deltas l.place l.met l.k
