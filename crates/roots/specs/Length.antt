-- The length of a difference, C's `hypot`: the value of the format that is nearest to the root of x² + y², a tie to the even one. Definitions only.
use Rattle.std.specs.Prelude.{ℕ, ◌+◌, ◌*◌, ◌/◌, ◌^◌, ◌≤◌, ◌<◌, false, ℤ, nat_abs, T, Float}
use Rattle.std.specs.Float.{nan, inf, fin, Format, binary32}
use Rattle.std.specs.Float.Ieee.{low, up, down, fits}
use Rattle.std.specs.Float.Ieee.Exact.{HasValue}
use Rattle.roots.specs.Root.{root_of, root_of_whole}

-- m * 2 ^ e in units of the format's smallest value, which a value of the format is a whole number of
abbrev pub units_in : Format → ℕ → ℤ → ℕ
units_in f m e = m * up e * 2 ^ low f / down e

-- a² + b²
abbrev pub squares : ℕ → ℕ → ℕ
squares a b = a * a + b * b

-- An infinity gives plus infinity, also beside a NaN; else a NaN gives a NaN.
unfoldable pub hypot_of : Format → Float → Float → Float
unfolding root_of
hypot_of f nan nan = nan
hypot_of f nan (inf t) = inf false
hypot_of f nan (fin t n d) = nan
hypot_of f (inf s) y = inf false
hypot_of f (fin s m e) nan = nan
hypot_of f (fin s m e) (inf t) = inf false
hypot_of f (fin s m e) (fin t n d) = root_of f (squares (units_in f m e) (units_in f n d))

-- The length of a difference of whole numbers, as an f32.
unfoldable pub length_of : ℤ → ℤ → Float
unfolding root_of_whole
length_of x y = root_of_whole binary32 (squares (nat_abs x) (nat_abs y))

-- r is the value of the format that is nearest to the root of n: no value y of it lies nearer. In units of the smallest value r is `root` and y is Y.
-- The middle of r and y lies on y's side of the root of n: twice the middle, squared, against four times n.
pub record NearestWhole (f : Format) (n : ℕ) (r : Float) : Type 0 where
  pub root : ℕ
  pub is : HasValue r false root (2 ^ low f)
  pub below : (y : Float) (Y : ℕ) → T (fits f y) → HasValue y false Y (2 ^ low f) → Y < root → (Y + root) * (Y + root) ≤ 4 * (n * 2 ^ (2 * low f))
  pub above : (y : Float) (Y : ℕ) → T (fits f y) → HasValue y false Y (2 ^ low f) → root < Y → 4 * (n * 2 ^ (2 * low f)) ≤ (Y + root) * (Y + root)
