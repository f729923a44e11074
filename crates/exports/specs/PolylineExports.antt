-- The two exports for line drawings by their contracts, as in Exports.antt: which outcomes a contract allows, that each is an outcome of its call told in C's terms, and that any two are equal. Definitions only.
use Rattle.std.specs.Prelude.{◌≡◌, List, ℕ, length, ℤ, Float}
use contract.Lifetimes.{Lfts}
use Rattle.aktyrbuz.specs.Exported.{WriteExport, write_leaves, write_export}
use Rattle.aktyrbuz.specs.Polylines.{PointsExport, points_leaves, points_export}
use Rattle.aktyrbuz.specs.PolylineCalls.{PointsReadCall, PointsWriteCall}
use Rattle.aktyrbuz.proofs.polylines.aktyrbuz_points_read.Reads as read-contract
use Rattle.aktyrbuz.proofs.polylines.aktyrbuz_points_write.Reads as write-contract
use Rattle.exports.specs.Exports.{Tells}

-- of a text, with so many cells of start and of double deltas lent
pub data PointsReadExportCall : List ℕ → ℕ → ℕ → PointsExport → Type 0 where
  reads : (κs : Lfts 4) (text : _) (start : _) (deltas : _) (answer : _) (r : _) (text' : _) (start' : _) (deltas' : _) (answer' : _)
      → read-contract.Post κs (text, (start, (deltas, (answer, tt)))) r (text', (start', (deltas', (answer', tt))))
      → PointsReadExportCall text.now (length start.now) (length deltas.now) (points_leaves r answer'.now start'.now deltas'.now)

-- of a description and the number of a spline, with so many bytes lent
pub data PointsWriteExportCall : List ℕ → List Float → List ℤ → List ℤ → ℕ → ℕ → WriteExport → Type 0 where
  writes : (κs : Lfts 6) (counts : _) (starts : _) (deltas : _) (coefficients : _) (spline : _) (text : _) (answer : _) (r : _)
      (counts' : _) (starts' : _) (deltas' : _) (coefficients' : _) (spline' : _) (text' : _) (answer' : _)
      → write-contract.Post κs (counts, (starts, (deltas, (coefficients, (spline, (text, (answer, tt))))))) r
      (counts', (starts', (deltas', (coefficients', (spline', (text', (answer', tt)))))))
      → PointsWriteExportCall counts.now starts.now deltas.now coefficients.now spline (length text.now) (write_leaves r answer'.now text'.now)

-- whatever an export's contract allows is an outcome that its call's contract allows, the five numbers included
pub record PolylineExportsTellTheCalls : Type 0 where
  pub read : (text : List ℕ) (start deltas : ℕ) (x : PointsExport) → PointsReadExportCall text start deltas x → Tells (PointsReadCall text start deltas) points_export x
  pub write : (ns : List ℕ) (ss : List Float) (ds cs : List ℤ) (k room : ℕ) (x : WriteExport)
      → PointsWriteExportCall ns ss ds cs k room x → Tells (PointsWriteCall ns ss ds cs k room) write_export x

-- any two outcomes that an export's contract allows are equal
pub record PolylineOneOutcomeExported : Type 0 where
  pub read : (text : List ℕ) (start deltas : ℕ) (x z : PointsExport) → PointsReadExportCall text start deltas x → PointsReadExportCall text start deltas z → x ≡ z
  pub write : (ns : List ℕ) (ss : List Float) (ds cs : List ℤ) (k room : ℕ) (x z : WriteExport)
      → PointsWriteExportCall ns ss ds cs k room x → PointsWriteExportCall ns ss ds cs k room z → x ≡ z
