-- What the steps below `points_write` speak of: the spline k of a description.
use Rattle.std.specs.Prelude.{◌≡◌, List, ℕ, ◌*◌, ◌<◌, length, get_or, take, drop, ℤ, Float}
use Rattle.shape.specs.Shape.{points_of}

-- the double deltas of the spline k
unfoldable pub part_of : List ℕ → List ℤ → ℕ → List ℤ
part_of ns ds k = take (2 * get_or ns k 0) (drop (2 * points_of (take k ns)) ds)

-- there is a spline k, and the lengths agree
pub record Parted (ns : List ℕ) (ss : List Float) (ds : List ℤ) (k : ℕ) : Type 0 where
  pub there : k < length ns
  pub starts : length ss ≡ 2 * length ns
  pub deltas : length ds ≡ 2 * points_of ns
