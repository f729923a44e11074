-- `fed`: the sum has the products before from + j.
use Rattle.eights.proofs.Feeding.{Fed}
use Rattle.eights.proofs.fed.Given as goal

abbrev pub invariant-loop-j : goal.invariant-loop-j
invariant-loop-j l = Fed l.row l.eight l.t l.from l.s l.j
