-- `no_start` meets its contract: the number stands for one below 2^31, or for a negative one.
use mathlib.Core.Path.{◌∙◌}
use native.Mathlib.Omega.{arith}
use borrow.Author.Tests.{lt-leb}
use Rattle.trace_parts.proofs.Parts.{start_low, start_high}
use Rattle.trace_parts.proofs.no_start.Goals as goal

pub returns-then-number-ge8388608 : goal.returns-then-number-ge8388608
returns-then-number-ge8388608 c = start_high c.args.number (omega arith) (omega arith)

pub returns-else-number-ge8388608 : goal.returns-else-number-ge8388608
returns-else-number-ge8388608 c = lt-leb 8388608 c.args.number (omega arith) ∙ start_low c.args.number (omega arith)
