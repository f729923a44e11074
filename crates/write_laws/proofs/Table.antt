-- The table of writing by the tests that the checks make, which lies between the checks and the table in words (specs/Refusals.antt).
use mathlib.Core.Path.{◌≡◌}
use mathlib.Core.Bool.{Bool, true, false, ◌||◌}
use mathlib.Core.List.{List, [], ◌∷◌}
use Prim.Native.Nat.{ℕ, zero, suc, ◌+◌, ◌*◌, ◌≤◌, ◌<◌}
use lib.ListN.{length, take, get_or}
use lib.IntN.{ℤ}
use lib.Ieee.{Float}
use Rattle.codes.specs.declared.Code.{Code}
use Rattle.codes.specs.declared.Code.TheVariants.{Splines, Coord, Points, Delta, Room, Shape}
use Rattle.shape.specs.Shape.{points_of}
use Rattle.list.specs.List.{delta_limit, beyond, Tame}
use Rattle.writer.specs.Write.{misshapen, miscounted, unfit_as}
use Rattle.write_laws.specs.Refusals.{points_before}

-- pair k of the starts holds a number that can't be written
abbrev pub unfit_pair : Bool → List Float → ℕ → Bool
unfit_pair first [] k = false
unfit_pair first (x ∷ []) k = false
unfit_pair first (x ∷ y ∷ ss) zero = unfit_as first x || unfit_as first y
unfit_pair first (x ∷ y ∷ ss) (suc k) = unfit_pair false ss k

-- the first k pairs of the starts can be written
abbrev pub FitPairs : Bool → ℕ → List Float → Type 0
FitPairs first zero ss = Unit {0}
FitPairs first (suc k) [] = Unit {0}
FitPairs first (suc k) (x ∷ []) = Unit {0}
FitPairs first (suc k) (x ∷ y ∷ ss) = ((unfit_as first x || unfit_as first y) ≡ false) × FitPairs false k ss

-- pair k of the double deltas holds one of magnitude 2^30 or more
abbrev pub wild_pair : List ℤ → ℕ → Bool
wild_pair [] k = false
wild_pair (x ∷ []) k = false
wild_pair (x ∷ y ∷ ds) zero = beyond delta_limit x y
wild_pair (x ∷ y ∷ ds) (suc k) = wild_pair ds k

-- from the first point count to that of spline k: double deltas, 128 coefficients and a count for each spline before it
abbrev pub values_before : ℕ → List ℕ → ℕ
values_before k ns = 2 * points_before k ns + 129 * k

-- a code and a place that the splines give, under a limit, with the points before them and the place of the first point count
pub data SplineRefusal (limit total place : ℕ) (ns : List ℕ) (ds : List ℤ) : Code → ℕ → Type 0 where
  -- 4: the running total passes the limit at spline k's count, and no double delta before it is wild
  points : (k : ℕ) → k < length ns → total + points_before k ns ≤ limit → limit < total + points_before (suc k) ns
      → Tame (take (2 * points_before k ns) ds)
      → SplineRefusal limit total place ns ds Points (place + values_before k ns)
  -- 5: pair j of spline k is wild, the running total is within the limit there, and no double delta before it is wild
  delta : (k j : ℕ) → k < length ns → j < get_or ns k 0 → total + points_before (suc k) ns ≤ limit
      → Tame (take (2 * (points_before k ns + j)) ds) → wild_pair ds (points_before k ns + j) ≡ true
      → SplineRefusal limit total place ns ds Delta (place + values_before k ns + (1 + 2 * j))

-- a code and a place that a description gives, under a limit, where its list has so many values and so many cells are lent
pub data Refusing (ns : List ℕ) (ss : List Float) (ds cs : List ℤ) (limit size room : ℕ) : Code → ℕ → Type 0 where
  -- 9: lengths disagree
  shape : misshapen ns ss ds cs ≡ true → Refusing ns ss ds cs limit size room Shape 0
  -- 2: a count of 0 or above the limit
  splines : misshapen ns ss ds cs ≡ false → miscounted limit (length ns) ≡ true → Refusing ns ss ds cs limit size room Splines 0
  -- 3: pair k of the starts is the first that can't be written
  coord : misshapen ns ss ds cs ≡ false → miscounted limit (length ns) ≡ false
      → (k : ℕ) → FitPairs true k ss → unfit_pair true ss k ≡ true
      → Refusing ns ss ds cs limit size room Coord (1 + 2 * k)
  -- 4 and 5: all starts can be written, and the splines give the code
  spline : misshapen ns ss ds cs ≡ false → miscounted limit (length ns) ≡ false → FitPairs true (length ns) ss
      → {c : Code} {p : ℕ} → SplineRefusal limit 0 (2 * length ns + 2) ns ds c p
      → Refusing ns ss ds cs limit size room c p
  -- 7: nothing else is given, and the list is too short
  room : misshapen ns ss ds cs ≡ false → miscounted limit (length ns) ≡ false → FitPairs true (length ns) ss → points_of ns ≤ limit → Tame ds → room < size
      → Refusing ns ss ds cs limit size room Room room

-- 0: nothing is given, and so many values are written
pub record Passed (ns : List ℕ) (ss : List Float) (ds cs : List ℤ) (limit size room values : ℕ) : Type 0 where
  pub shaped : misshapen ns ss ds cs ≡ false
  pub counted : miscounted limit (length ns) ≡ false
  pub fit : FitPairs true (length ns) ss
  pub within : points_of ns ≤ limit
  pub tame : Tame ds
  pub held : size ≤ room
  pub all : values ≡ size

-- Assumes nothing.
