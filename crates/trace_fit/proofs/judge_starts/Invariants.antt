-- `judge_starts` meets its contract: what the checks of all numbers say is what those of the numbers left say.
use mathlib.Core.Path.{◌≡◌}
use Prim.Native.Nat.{◌+◌}
use lib.ListN.{drop}
use Rattle.codes.specs.declared.Code.TheVariants.{Coord}
use Rattle.writer.specs.Write.{first_fault}
use Rattle.trace.specs.Trace.{number_checks}
use Rattle.trace.specs.Write.{misfit}
use Rattle.trace_fit.proofs.judge_starts.Given as goal

abbrev pub invariant-loop-i : goal.invariant-loop-i
invariant-loop-i l =
    first_fault (number_checks misfit Coord l.from l.starts) ≡ first_fault (number_checks misfit Coord (l.from + l.i) (drop l.i l.starts))
