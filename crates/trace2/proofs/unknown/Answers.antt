-- `unknown` meets its contract: two comparisons.
use borrow.Author.Tests.{eq-eqb}
use Rattle.trace2.proofs.Editions.{one_known, but_one}
use Rattle.trace2.proofs.unknown.Goals as goal

pub returns-then-number-ne1 : goal.returns-then-number-ne1
returns-then-number-ne1 c = but_one c.args.number c.if-number-ne1.true

pub returns-else-number-ne1 : goal.returns-else-number-ne1
returns-else-number-ne1 c = rw (eq-eqb c.args.number 1 c.if-number-ne1.false) (one_known c.args.number c.if-number-ne1.false)
