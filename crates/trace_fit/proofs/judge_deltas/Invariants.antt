-- `judge_deltas` meets its contract: what the checks of all numbers say is what those of the numbers left say.
use mathlib.Core.Path.{◌≡◌}
use Prim.Native.Nat.{◌+◌}
use lib.ListN.{drop}
use Rattle.codes.specs.declared.Code.TheVariants.{Delta}
use Rattle.writer.specs.Write.{first_fault}
use Rattle.trace.specs.Trace.{wild, number_checks}
use Rattle.trace_fit.proofs.judge_deltas.Given as goal

abbrev pub invariant-loop-i : goal.invariant-loop-i
invariant-loop-i l =
    first_fault (number_checks wild Delta l.from l.deltas) ≡ first_fault (number_checks wild Delta (l.from + l.i) (drop l.i l.deltas))
