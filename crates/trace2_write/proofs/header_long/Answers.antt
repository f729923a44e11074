-- `header_long` meets its contract: one comparison.
use mathlib.Core.Path.{sym}
use native.Mathlib.Omega.{arith}
use Rattle.trace2.proofs.Editions.{nine, eight}
use Rattle.trace2_write.proofs.header_long.Goals as goal

pub returns-then-version-eq2 : goal.returns-then-version-eq2
returns-then-version-eq2 c = (sym (nine c.args.version c.if-version-eq2.true), omega arith)

pub returns-else-version-eq2 : goal.returns-else-version-eq2
returns-else-version-eq2 c = (sym (eight c.args.version c.if-version-eq2.false), omega arith)
