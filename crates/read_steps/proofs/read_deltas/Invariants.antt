-- `read_steps::read_deltas`: what is read stands in front, and the rest of the list gives what is left.
use mathlib.Core.Path.{◌≡◌}
use Prim.Native.Nat.{◌-◌, ◌*◌, ◌≤◌}
use lib.ListN.{length, take, drop}
use Rattle.list.specs.List.{onto, deltas_in}
use Rattle.read_steps.proofs.read_deltas.Given as goal

abbrev pub invariant-loop-i : goal.invariant-loop-i
invariant-loop-i l = (length l.rest ≤ l.total) × (drop (2 * l.i) l.out ≡ drop (2 * l.i) l.initial.out) × (deltas_in l.total l.n l.list ≡ onto (take (2 * l.i) l.out) (deltas_in l.total (l.n - l.i) l.rest))
