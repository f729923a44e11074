-- `read_steps::read_starts`: what is read stands in front, and the rest of the list, after the last start, gives what is left.
use mathlib.Core.Path.{◌≡◌}
use mathlib.Core.Bool.{true}
use Prim.Native.Nat.{◌-◌, ◌*◌, ◌≤◌, ◌<◌, ◌^◌}
use lib.Dec.{eqb}
use lib.ListN.{length, take, drop}
use lib.IntN.{pos}
use lib.Signed.{mag}
use Rattle.list.specs.List.{onto, starts_in}
use Rattle.read_steps.specs.Steps.{floats}
use Rattle.read_steps.proofs.read_starts.Given as goal

abbrev pub invariant-loop-i : goal.invariant-loop-i
invariant-loop-i l = (length l.rest ≤ l.total) × (drop (2 * l.i) l.out ≡ drop (2 * l.i) l.initial.out) × (mag l.last_x < 2 ^ 23) × (mag l.last_y < 2 ^ 23) × (floats (starts_in l.total true (pos 0) (pos 0) l.n l.list) ≡ onto (take (2 * l.i) l.out) (floats (starts_in l.total (eqb l.i 0) l.last_x l.last_y (l.n - l.i) l.rest)))
