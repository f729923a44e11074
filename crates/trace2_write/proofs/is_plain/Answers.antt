-- `is_plain` meets its contract: two comparisons.
use mathlib.Core.Path.{◌∙◌}
use borrow.Author.Tests.{ne_eqb}
use Rattle.trace2_write.proofs.Seconds.{plain_one, plain_not}
use Rattle.trace2_write.proofs.is_plain.Goals as goal

pub returns-then-version-eq1 : goal.returns-then-version-eq1
returns-then-version-eq1 c = plain_one c.args.version c.args.edition c.if-version-eq1.true

pub returns-else-version-eq1 : goal.returns-else-version-eq1
returns-else-version-eq1 c = ne_eqb c.args.version 1 c.if-version-eq1.false ∙ plain_not c.args.version c.args.edition c.if-version-eq1.false
