-- What the checks behind the version take for granted: the first eight numbers are there, and two of them are the splines and the points.
use Rattle.std.specs.Prelude.{◌≡◌, List, ℕ, ◌^◌, ◌≤◌, ◌<◌, length}
use Rattle.little.specs.Little.{numbers_in}
use Rattle.trace.specs.Read.{splines_in, points_in}

-- of a file with a header of h numbers, s splines and p points
pub record Counted (bytes : List ℕ) (h s p : ℕ) : Type 0 where
  pub long : 32 ≤ length bytes
  pub short : h < 16
  pub few : s < 2 ^ 32
  pub fewer : p < 2 ^ 32
  pub splines : s ≡ splines_in (numbers_in bytes)
  pub points : p ≡ points_in (numbers_in bytes)
