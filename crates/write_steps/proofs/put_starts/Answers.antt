-- `write_steps::put_starts` meets its contract: the first start is stored as it is, and the others after it.
use mathlib.Core.Path.{◌∙◌}
use mathlib.Core.Bool.{true}
use native.Mathlib.Omega.{arith}
use lib.ListN.{length-set}
use Rattle.write_judge.proofs.Checks.{starts_fine}
use Rattle.write_steps.proofs.Stores.{starts_stored}
use Rattle.write_steps.proofs.put_starts.Goals as goal

pub first_value-requires : goal.first_value-requires
first_value-requires c = (starts_fine true c.args.starts.now 1 0 (omega arith) c.requires.3).0

pub first_value-requires-2 : goal.first_value-requires-2
first_value-requires-2 c = (starts_fine true c.args.starts.now 1 0 (omega arith) c.requires.3).1

pub bounds-list-2 : goal.bounds-list-2
bounds-list-2 c = simp length-set (omega arith)

pub returns : goal.returns
returns c =
    let a = c.args in
    c.put_later_starts.ensures
    ∙ starts_stored a.starts.now a.list.now _ _ (omega arith) c.first_value.ensures c.first_value-2.ensures
