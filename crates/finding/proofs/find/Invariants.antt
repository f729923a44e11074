-- `finding::find` meets its contract: at no place that was passed does the word stand.
use Rattle.finding.proofs.Passed.{Missing}
use Rattle.finding.proofs.find.Given as goal

abbrev pub invariant-loop-at : goal.invariant-loop-at
invariant-loop-at l = Missing l.bytes l.from l.word l.at
