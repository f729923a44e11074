-- The test on the number picks the word.
use borrow.Author.Tests.{eq-eqb, ne_eqb}
use Rattle.stored.proofs.refusal_word.Goals as goal

pub returns-then-number-eq5 : goal.returns-then-number-eq5
returns-then-number-eq5 c = rw (eq-eqb _ _ c.if-number-eq5.true)

pub returns-else-number-eq5 : goal.returns-else-number-eq5
returns-else-number-eq5 c = rw (ne_eqb _ _ c.if-number-eq5.false)
