-- `draw_each`: the splines below k are drawn.
use mathlib.Core.Path.{◌≡◌}
use Prim.Native.Nat.{◌≤◌}
use lib.ListN.{length}
use Rattle.dequantize.specs.Judge.{description_in}
use Rattle.curve.specs.Curve.{path_room}
use Rattle.walk.specs.Walk.{walk_room}
use Rattle.points.specs.Points.{segment_room}
use Rattle.painting.proofs.Painting.{Painting}
use Rattle.painting.proofs.draw_each.Given as goal

abbrev pub invariant-loop-k : goal.invariant-loop-k
invariant-loop-k l =
    (l.at ≤ length l.description.deltas.now)
    × (length l.path ≡ length l.initial.path)
    × (length l.walk ≡ length l.initial.walk)
    × (length l.out ≡ length l.initial.out)
    × (length l.owners ≡ length l.initial.owners)
    × Painting (description_in l.description) l.given l.high_precision (path_room (length l.initial.path)) (walk_room (length l.initial.walk)) (segment_room (length l.initial.out)) l.initial.out l.initial.owners l.out l.owners l.k l.at l.count
