-- What the export for reading a points text leaves, in C's terms. Definitions only.
use Rattle.std.specs.Prelude.{List, ℕ, ℤ, Float}
use Rattle.polyline.specs.Read.{PointsOutcome}
use Rattle.told.specs.Told.{told_write, told_in}

pub record PointsExport : Type 0 where
  pub number : ℕ
  pub answer : List ℤ
  pub start : List Float
  pub deltas : List ℤ

abbrev pub points_leaves : ℕ → List ℤ → List Float → List ℤ → PointsExport
points_leaves r five s d = record { number = r; answer = five; start = s; deltas = d }

abbrev pub points_export : PointsOutcome → PointsExport
points_export o = points_leaves (told_write o.answer).number (told_in (told_write o.answer)) o.start o.deltas
