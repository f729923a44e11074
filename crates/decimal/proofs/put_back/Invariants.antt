-- `decimal::put_back` meets its contract: the digits of what is left stand before those that are stored.
use Rattle.decimal.proofs.Backs.{Back}
use Rattle.decimal.proofs.put_back.Given as goal

abbrev pub invariant-loop-left : goal.invariant-loop-left
invariant-loop-left l = Back l.initial.text l.end l.n l.text l.left l.i

abbrev pub decreases-loop-left : goal.decreases-loop-left
decreases-loop-left l = l.left
