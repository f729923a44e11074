-- `no_delta` meets its contract: the number stands for one below 2^31, or for a negative one.
use mathlib.Core.Path.{◌∙◌}
use native.Mathlib.Omega.{arith}
use borrow.Author.Tests.{lt-leb}
use Rattle.trace_parts.proofs.Parts.{delta_low, delta_high}
use Rattle.trace_parts.proofs.no_delta.Goals as goal

pub returns-then-number-ge1073741824 : goal.returns-then-number-ge1073741824
returns-then-number-ge1073741824 c = delta_high c.args.number (omega arith) (omega arith)

pub returns-else-number-ge1073741824 : goal.returns-else-number-ge1073741824
returns-else-number-ge1073741824 c = lt-leb 1073741824 c.args.number (omega arith) ∙ delta_low c.args.number (omega arith)
