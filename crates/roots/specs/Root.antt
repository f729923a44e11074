-- The square root of IEEE 754: the value of the format that is nearest to the root, a tie to the even one. Definitions only, over the format.
use Prim.Native.Nat.{ℕ, zero, suc, ◌+◌, ◌-◌, ◌*◌, ◌/◌, ◌^◌, ◌≤◌, ◌<◌, compare}
use Rattle.std.specs.Prelude.{true, false, cond, T, leb, Float}
use Rattle.std.specs.Float.{nan, inf, fin, Format}
use Rattle.std.specs.Float.Ieee.{prec, low, up, down, size, nearest, units, fits}
use Rattle.std.specs.Float.Ieee.Exact.{HasValue}

-- r is the whole part of the root of n
pub record IsRoot (n r : ℕ) : Type 0 where
  pub low : r * r ≤ n
  pub high : n < (r + 1) * (r + 1)

-- the whole part of the root of an n below 4 ^ d, a binary digit at a time
unfoldable pub root_in : ℕ → ℕ → ℕ
root_in zero n = 0
root_in (suc d) n =
    let r = 2 * root_in d (n / 4) in
    cond (leb ((r + 1) * (r + 1)) n) (r + 1) r

unfoldable pub root : ℕ → ℕ
unfolding root_in
root n = root_in (size n) n

-- the whole number nearest to the root of n: 4 * n against the square of twice q and a half
unfoldable pub nearest_root : ℕ → ℕ
unfolding root
nearest_root n =
    let q = root n in
    nearest q (compare (4 * n) ((2 * q + 1) * (2 * q + 1)))

-- The multiple of 2 ^ k nearest to the root of n, as a number of 2 ^ k. Nothing is cut off n before it is compared.
unfoldable pub nearest_root_at : ℕ → ℕ → ℕ
unfolding root
nearest_root_at k n =
    let q = root (n / 2 ^ (2 * k)) in
    nearest q (compare (4 * n) ((2 * q + 1) * (2 * q + 1) * 2 ^ (2 * k)))

-- The root of n units of the square of the format's smallest value: of its whole part the format keeps the `prec` leading digits and drops k.
unfoldable pub root_of : Format → ℕ → Float
unfolding nearest_root_at root size units
root_of f n =
    let k = size (root n) - prec f in
    units f false (nearest_root_at k n) k

-- the root of a whole number, as a value of the format
unfoldable pub root_of_whole : Format → ℕ → Float
unfolding root_of
root_of_whole f n = root_of f (n * 2 ^ (2 * low f))

unfoldable pub sqrt_of : Format → Float → Float
unfolding root_of
sqrt_of f nan = nan
sqrt_of f (inf true) = nan
sqrt_of f (inf false) = inf false
sqrt_of f (fin s zero e) = fin s zero e
sqrt_of f (fin true (suc m) e) = nan
sqrt_of f (fin false (suc m) e) = root_of f (suc m * up e * 2 ^ (2 * low f) / down e)

-- r is the value of the format that is nearest to the root of x: no value y of it lies nearer. In units of the smallest value r is `root` and y is Y,
-- and in units of its square x is `square`. The middle of r and y lies on y's side of the root of x: twice the middle, squared, against four times the square.
pub record Nearest (f : Format) (x r : Float) : Type 0 where
  pub square : ℕ
  pub root : ℕ
  pub of : HasValue x false square (2 ^ (2 * low f))
  pub is : HasValue r false root (2 ^ low f)
  pub below : (y : Float) (Y : ℕ) → T (fits f y) → HasValue y false Y (2 ^ low f) → Y < root → (Y + root) * (Y + root) ≤ 4 * square
  pub above : (y : Float) (Y : ℕ) → T (fits f y) → HasValue y false Y (2 ^ low f) → root < Y → 4 * square ≤ (Y + root) * (Y + root)
