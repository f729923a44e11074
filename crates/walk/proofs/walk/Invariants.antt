-- `walk::walk`: the invariant is that what is written and what is left make up the walk in at most `room` points; the first point is written before the loop.
use mathlib.Core.Path.{◌≡◌}
use Prim.Native.Nat.{◌-◌}
use lib.ListN.{length}
use Rattle.walk.specs.Walk.{walk_from, walk_in}
use Rattle.walk.proofs.Walking.{Walking}
use Rattle.walk.proofs.walk.Given as goal

abbrev pub invariant-loop-n : goal.invariant-loop-n
invariant-loop-n l =
    (length l.out ≡ length l.initial.out) × Walking (walk_in l.room l.path) (walk_from (l.room - l.n) l.path l.next l.current) l.initial.out l.out l.n
