-- The invariant: what is left to trace from the run gives what the whole gives from the start.
use mathlib.Core.Path.{◌≡◌}
use Prim.Native.Nat.{◌*◌}
use lib.ListN.{drop}
use Rattle.control_points.specs.ControlPoints.{trace_from}
use Rattle.control_points.specs.Asked.{Held}
use Rattle.control_points.proofs.trace.Given as goal

abbrev pub invariant-loop-k : goal.invariant-loop-k
invariant-loop-k l = Held l.run l.limit × (trace_from l.limit l.initial.run l.deltas ≡ trace_from l.limit l.run (drop (2 * l.k) l.deltas))
