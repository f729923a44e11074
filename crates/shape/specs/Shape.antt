-- The points of a description, and what SHAPE asks for.
use Rattle.std.specs.Prelude.{◌≡◌, Bool, ◌&&◌, List, [], ◌∷◌, ℕ, ◌+◌, ◌*◌, eqb, length, ℤ, Float}

-- the points: the sum of the counts
abbrev pub points_of : List ℕ → ℕ
points_of [] = 0
points_of (n ∷ ns) = n + points_of ns

-- lengths agree: S counts need 2S start numbers, two delta numbers a point, 128S coefficients, exactly
pub record Shaped (ns : List ℕ) (ss : List Float) (ds cs : List ℤ) : Type 0 where
  pub starts : length ss ≡ 2 * length ns
  pub deltas : length ds ≡ 2 * points_of ns
  pub coefficients : length cs ≡ 128 * length ns

-- the same as a test
unfoldable pub shaped : List ℕ → List Float → List ℤ → List ℤ → Bool
shaped ns ss ds cs = eqb (length ss) (2 * length ns) && (eqb (length ds) (2 * points_of ns) && eqb (length cs) (128 * length ns))
