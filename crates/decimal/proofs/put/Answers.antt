-- `decimal::put` meets its contract: behind the last cell nothing is stored.
use mathlib.Core.Path.{sym}
use lib.Seq.{set_out}
use Rattle.decimal.proofs.put.Goals as goal

pub returns-else-at-cells : goal.returns-else-at-cells
returns-else-at-cells g c = sym (set_out c.args.cells.now c.args.at c.args.value c.if-at-cells.false)
