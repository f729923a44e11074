-- Each way out is decided by the tests that led there.
use borrow.Author.Tests.{lt-ltb, le-ltb}
use Rattle.joins.specs.Joins.{joined}
use Rattle.joins.proofs.join.Goals as goal

pub returns-then-found : goal.returns-then-found
unfolding joined
returns-then-found c = rw (lt-ltb _ _ c.requires, le-ltb _ _ c.if-found.true)

pub returns : goal.returns
unfolding joined
returns c = rw (lt-ltb _ _ c.requires, lt-ltb _ _ c.if-found.false, c.max.ensures, c.min.ensures)
