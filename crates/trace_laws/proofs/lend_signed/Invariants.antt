use lib.ListN.{take}
use Rattle.little.specs.Little.{Signeds}
use Rattle.trace_laws.proofs.lend_signed.Given as goal

abbrev pub invariant-loop-i : goal.invariant-loop-i
invariant-loop-i l = Signeds (take l.i l.numbers)
