-- `polyline_spline::put_rest` meets its contract: before each double delta, what is put and what is left come to the whole.
use Rattle.polyline_spline.proofs.Puts.{Rest}
use Rattle.polyline_spline.proofs.put_rest.Given as goal

abbrev pub invariant-loop-k : goal.invariant-loop-k
invariant-loop-k l = Rest l.initial.place l.deltas l.initial.text l.begin l.text l.place l.at l.k
