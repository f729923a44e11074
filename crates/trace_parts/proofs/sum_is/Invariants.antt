use mathlib.Core.Path.{◌≡◌}
use Prim.Native.Nat.{◌+◌, ◌-◌, ◌≤◌}
use lib.ListN.{drop}
use Rattle.shape.specs.Shape.{points_of}
use Rattle.little.specs.Little.{numbers_in}
use Rattle.trace_parts.proofs.sum_is.Given as goal

abbrev pub invariant-loop-i : goal.invariant-loop-i
invariant-loop-i l =
    (l.left ≤ l.points) × (points_of (drop l.i (numbers_in l.part)) + (l.points - l.left) ≡ points_of (numbers_in l.part))
