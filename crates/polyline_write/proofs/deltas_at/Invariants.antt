-- `polyline_write::deltas_at` meets its contract: the counts before the one that comes next are summed.
use mathlib.Core.Path.{◌≡◌}
use Prim.Native.Nat.{◌*◌}
use lib.ListN.{take}
use Rattle.shape.specs.Shape.{points_of}
use Rattle.polyline_write.proofs.deltas_at.Given as goal

abbrev pub invariant-loop-i : goal.invariant-loop-i
invariant-loop-i l = l.at ≡ 2 * points_of (take l.i l.counts)
