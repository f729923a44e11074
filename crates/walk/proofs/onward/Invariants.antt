-- `walk::onward`: the invariant is that what is left leads where the whole led; each turn opens the definition once.
use mathlib.Core.Path.{◌≡◌}
use Prim.Native.Nat.{◌-◌, ◌/◌}
use lib.ListN.{length}
use Rattle.walk.specs.Walk.{stretch_in, stretch_of}
use Rattle.walk.proofs.onward.Given as goal

abbrev pub invariant-loop-i : goal.invariant-loop-i
invariant-loop-i l = stretch_of l.path l.next l.fn.from ≡ stretch_in (length l.path / 2 - l.i) l.path l.i l.previous l.walked
