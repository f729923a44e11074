-- `write_steps::put_splines` meets its contract: the splines from `n-index` on are left to store.
use Rattle.write_steps.proofs.Stores.{Rows}
use Rattle.write_steps.proofs.put_splines.Given as goal

abbrev pub invariant-loop-n : goal.invariant-loop-n
invariant-loop-n l = Rows l.description.counts.now l.description.deltas.now l.description.coefficients.now l.initial.list l.at l.list l.place l.from l.row l.n-index
