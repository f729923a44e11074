-- Each branch is the definition's; at 0 it is computed.
use native.Mathlib.Omega.{arith}
use borrow.Author.Tests.{eq-eqb, ne_eqb}
use lib.Count.{leading_of_zero}
use Rattle.numbers.specs.Saturating.{floor_log2, ceil_log2}
use Rattle.numbers.proofs.ceil_log2.Goals as goal

pub overflow_add-result : goal.overflow_add-result
unfolding floor_log2
overflow_add-result c = let e = c.floor_log2.ensures in record { fits = omega arith }

pub returns-then-n-eq0 : goal.returns-then-n-eq0
unfolding ceil_log2 floor_log2
returns-then-n-eq0 c = rw (c.if-n-eq0.true, leading_of_zero)

pub returns-then-n-ne0 : goal.returns-then-n-ne0
unfolding ceil_log2
returns-then-n-ne0 c = rw (ne_eqb _ _ c.if-n-ne0.true, c.floor_log2.ensures)

pub returns-else-n-ne0 : goal.returns-else-n-ne0
unfolding ceil_log2
returns-else-n-ne0 c = rw (eq-eqb _ _ c.if-n-ne0.false, c.floor_log2-else-n-ne0.ensures)
