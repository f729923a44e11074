-- What reading splines leaves in the lent buffers: on success the values and then what was there, after a stop nothing is said.
use Rattle.std.specs.Prelude.{◌≡◌, List, ℕ, ℤ, Result, Ok}
use Rattle.codes.specs.Refusal.{Refusal, refused}
use Rattle.shape.specs.Shape.{points_of}
use Rattle.list.specs.List.{Got, got, stop, Spline, spline, Splines, splines}
use Rattle.read_steps.specs.Steps.{Front}

-- one spline: its point count, double deltas and coefficients
abbrev pub SplineLeft : Got Spline → Result ℕ Refusal → List ℤ → List ℤ → List ℤ → List ℤ → Type 0
SplineLeft (got (spline n ds cs) l) r d d' c c' = (r ≡ Ok n) × Front ds d d' × Front cs c c'
SplineLeft (stop k p) r d d' c c' = r ≡ refused k p

-- all splines, and the sum of their points
abbrev pub SplinesLeft : Got Splines → Result ℕ Refusal → List ℕ → List ℕ → List ℤ → List ℤ → List ℤ → List ℤ → Type 0
SplinesLeft (got (splines ns ds cs) l) r n n' d d' c c' = (r ≡ Ok (points_of ns)) × Front ns n n' × Front ds d d' × Front cs c c'
SplinesLeft (stop k p) r n n' d d' c c' = r ≡ refused k p
