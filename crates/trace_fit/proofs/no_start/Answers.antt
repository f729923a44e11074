-- `no_start` meets its contract: -2^23 by itself, and any other number as a start of the list.
use mathlib.Core.Path.{◌∙◌}
use lib.Ieee.{of_bits, neg, ne}
use borrow.Author.Tests.{not-true, not-false}
use Rattle.trace_fit.proofs.Fits.{start_least, start_other}
use Rattle.trace_fit.proofs.no_start.Goals as goal

pub returns-then-x : goal.returns-then-x
unfolding of_bits neg ne
returns-then-x c = c.unfit_start.ensures ∙ start_other c.args.x (not-true _ c.if-x.true)

pub returns-else-x : goal.returns-else-x
unfolding of_bits neg ne
returns-else-x c = c.if-x.false ∙ start_least c.args.x (not-false _ c.if-x.false)
