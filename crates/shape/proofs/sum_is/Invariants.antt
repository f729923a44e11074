-- `sum_is`: what is left of the points stands against what is left of the counts.
use Prim.Native.Nat.{◌+◌, ◌-◌, ◌≤◌}
use mathlib.Core.Path.{◌≡◌}
use lib.ListN.{drop}
use Rattle.shape.specs.Shape.{points_of}
use Rattle.shape.proofs.sum_is.Given as goal

abbrev pub invariant-loop-i : goal.invariant-loop-i
invariant-loop-i l = (l.left ≤ l.points) × (points_of (drop l.i l.counts) + (l.points - l.left) ≡ points_of l.counts)
