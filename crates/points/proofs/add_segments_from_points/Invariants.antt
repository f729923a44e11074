-- `add_segments_from_points`: the points below i are done, and what is written and what is still to come make up all segments.
use mathlib.Core.Path.{◌≡◌}
use Prim.Native.Nat.{◌≤◌}
use lib.ListN.{length}
use Rattle.points.specs.Points.{segment_room}
use Rattle.points.proofs.Adding.{Adding}
use Rattle.points.proofs.add_segments_from_points.Given as goal

abbrev pub invariant-loop-i : goal.invariant-loop-i
invariant-loop-i l =
    (length l.out ≡ length l.initial.out)
    × (l.count ≤ segment_room (length l.initial.out))
    × Adding l.spline l.walk_length l.high_precision l.walk l.initial.out l.from (segment_room (length l.initial.out)) l.out l.i l.count
