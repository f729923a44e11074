-- `read_splines::read_splines` meets its contract. The invariant `Going` says how far the buffers are filled and what the rest of the list still gives.
use Prim.Native.Nat.{◌*◌}
use Rattle.read_splines.proofs.Splines.{Going}
use Rattle.read_splines.proofs.read_splines.Given as goal

abbrev pub invariant-loop-i : goal.invariant-loop-i
invariant-loop-i l = Going l.list l.total l.limit l.s l.initial.counts l.initial.deltas l.initial.coefficients l.counts l.deltas l.coefficients l.rest l.left l.i l.d (128 * l.i)
