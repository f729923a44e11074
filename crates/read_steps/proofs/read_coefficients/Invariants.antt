-- `read_steps::read_coefficients`: what is read stands before `i`, and the rest of the list gives what is left.
use mathlib.Core.Path.{◌≡◌}
use Prim.Native.Nat.{◌-◌}
use lib.ListN.{take, drop}
use Rattle.list.specs.List.{onto, coefficients_in}
use Rattle.read_steps.proofs.read_coefficients.Given as goal

abbrev pub invariant-loop-i : goal.invariant-loop-i
invariant-loop-i l = (drop l.i l.out ≡ drop l.i l.initial.out) × (coefficients_in l.total l.n l.list ≡ onto (take l.i l.out) (coefficients_in l.total (l.n - l.i) l.rest))
