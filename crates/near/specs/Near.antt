-- How near a listed row or column is: the edge allowance of a certificate. Definitions only.
-- Nothing here is rounded: a centre c and a distance d are whole numbers over one 2 ^ k, and a row or column y is y * 2 ^ k over it. Every finite f32 is a whole number over 2 ^ 149.
use Rattle.std.specs.Prelude.{◌≡◌, Bool, true, ℕ, ◌+◌, ◌*◌, ◌^◌, ◌≤◌, ◌<◌, T, ℤ, pos, nat_abs, ◌-ℤ◌, ◌≤ℤ◌, Float}
use Rattle.std.specs.Float.{binary32}
use Rattle.std.specs.Float.Ieee.{fits}
use Rattle.std.specs.Float.Ieee.Exact.{HasValue}
use Rattle.std.specs.Float.Ieee.Scale.{finite}
use Rattle.ieee754.specs.Ieee754.{signed}
use Rattle.segments.specs.Ranges.{has_row, has_column}
use Rattle.segments.specs.declared.Segment.{Segment}

-- x is finite, and is the fraction z / 2 ^ k; either zero is 0
pub record Is (x : Float) (z : ℤ) (k : ℕ) : Type 0 where
  pub sign : Bool
  pub size : ℕ
  pub value : HasValue x sign size (2 ^ k)
  pub is : z ≡ signed sign size

-- the premises: a centre c and a distance d, finite, with d at least 0 and |c| + d at most 2 ^ 22
pub record Edge (centre distance : Float) (k : ℕ) (c : ℤ) (d : ℕ) : Type 0 where
  pub centre_is : Is centre c k
  pub distance_is : Is distance (pos d) k
  pub small : nat_abs c + d ≤ 2 ^ 22 * 2 ^ k

-- |y - c|, over 2 ^ k
abbrev pub apart : ℕ → ℤ → ℕ → ℕ
apart k c y = nat_abs (pos (y * 2 ^ k) -ℤ c)

-- what is no farther than d - 1 from c is listed, and nothing listed is farther than d + 1
pub record Allowance (lists : ℕ → Bool) (k : ℕ) (c : ℤ) (d : ℕ) : Type 0 where
  pub inside : (y : ℕ) → apart k c y + 2 ^ k ≤ d → lists y ≡ true
  pub outside : (y : ℕ) → lists y ≡ true → apart k c y ≤ d + 2 ^ k

-- more than that holds: what is nearer than d + 3/8 is listed, so all within d itself, and nothing listed is farther than d + 5/8
pub record Tight (lists : ℕ → Bool) (k : ℕ) (c : ℤ) (d : ℕ) : Type 0 where
  pub inside : (y : ℕ) → 8 * apart k c y < 8 * d + 3 * 2 ^ k → lists y ≡ true
  pub outside : (y : ℕ) → lists y ≡ true → 8 * apart k c y ≤ 8 * d + 5 * 2 ^ k

-- the rows of a segment
abbrev pub RowsBy : ((ℕ → Bool) → ℕ → ℤ → ℕ → Type 0) → Type 0
RowsBy Holds = (s : Segment) (k : ℕ) (c : ℤ) (d : ℕ) → Edge s.center_y s.maximum_distance k c d → Holds (has_row s) k c d

-- its columns, where c - d is also at least 1
abbrev pub ColumnsBy : ((ℕ → Bool) → ℕ → ℤ → ℕ → Type 0) → Type 0
ColumnsBy Holds =
    (s : Segment) (k : ℕ) (c : ℤ) (d : ℕ) → Edge s.center_x s.maximum_distance k c d → pos (d + 2 ^ k) ≤ℤ c → Holds (has_column s) k c d

abbrev pub RowsNear : Type 0
RowsNear = RowsBy Allowance

abbrev pub ColumnsNear : Type 0
ColumnsNear = ColumnsBy Allowance

-- every finite f32 is a whole number over 2 ^ 149, so the premises ask no more of a centre and a distance than to be finite, not below 0, and small
abbrev pub EveryFinite : Type 0
EveryFinite = (x : Float) → T (fits binary32 x) → T (finite x) → (z : ℤ) × Is x z 149
