-- `write_steps::put_later_starts` meets its contract: the pairs from `k` on are left to store, and they are fit.
use Prim.Native.Nat.{◌*◌}
use Rattle.write_steps.proofs.Stores.{Later}
use Rattle.write_steps.proofs.put_later_starts.Given as goal

abbrev pub invariant-loop-k : goal.invariant-loop-k
invariant-loop-k l = Later l.starts l.initial.list l.list (2 * l.k)
