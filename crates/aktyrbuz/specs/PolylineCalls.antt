-- The two calls for line drawings by their contracts: which outcomes a contract allows. Definitions only.
-- `Post` is a contract as it was proved, as in Calls.antt.
use Rattle.std.specs.Prelude.{List, ℕ, length, ℤ, Float}
use contract.Lifetimes.{Lfts}
use Rattle.writer.specs.Write as writing
use Rattle.polyline.specs.Read as points
use Rattle.polyline_read.proofs.points_read.Reads as points-read
use Rattle.polyline_write.proofs.points_write.Reads as points-write

-- of a text, with so many cells of start and of double deltas lent
pub data PointsReadCall : List ℕ → ℕ → ℕ → points.PointsOutcome → Type 0 where
  reads : (κs : Lfts 3) (text : _) (start : _) (deltas : _) (r : _) (text' : _) (start' : _) (deltas' : _)
      → points-read.Post κs (text, (start, (deltas, tt))) r (text', (start', (deltas', tt)))
      → PointsReadCall text.now (length start.now) (length deltas.now) (points.leaves r start'.now deltas'.now)

-- of a description and the number of a spline, with so many bytes lent
pub data PointsWriteCall : List ℕ → List Float → List ℤ → List ℤ → ℕ → ℕ → writing.WriteOutcome → Type 0 where
  writes : (κs : Lfts 3) (description : _) (spline : _) (text : _) (r : _)
      (description' : _) (spline' : _) (text' : _)
      → points-write.Post κs (description, (spline, (text, tt))) r
      (description', (spline', (text', tt)))
      → PointsWriteCall description.now.counts.now description.now.starts.now description.now.deltas.now description.now.coefficients.now spline (length text.now) (writing.leaves r text'.now)
