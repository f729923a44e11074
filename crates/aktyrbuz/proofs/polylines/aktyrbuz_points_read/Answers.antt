-- `aktyrbuz_points_read` meets its contract: what `points_read` leaves, and its answer told in five numbers.
use mathlib.Core.Path.{◌≡◌}
use mathlib.Core.List.{List}
use Prim.Native.Nat.{ℕ}
use lib.IntN.{ℤ}
use lib.Ieee.{Float}
use Rattle.writer.specs.WriteAnswer.{WriteAnswer}
use Rattle.polyline.specs.Read.{PointsOutcome, leaves}
use Rattle.told.specs.Told.{told_write, told_in}
use Rattle.aktyrbuz.specs.Polylines.{points_leaves, points_export}
use Rattle.aktyrbuz.proofs.polylines.aktyrbuz_points_read.Goals as goal

points-exported : {o : PointsOutcome} (r : WriteAnswer) (k : ℕ) (five : List ℤ) (s : List Float) (d : List ℤ)
    → leaves r s d ≡ o → k ≡ (told_write r).number → five ≡ told_in (told_write r) → points_leaves k five s d ≡ points_export o
points-exported r k five s d p q e = rw (← p, e, q)

pub returns : goal.returns
returns c = points-exported _ _ _ _ _ c.points_read.ensures c.tell.ensures.number c.tell.ensures.five
