-- The codes of a spline's start and pairs, and when each is given: each check as a statement on whole numbers, and what refuses a pair. Definitions only.
-- That a trace refuses exactly so is in proofs/Tracing.antt.
use Rattle.std.specs.Prelude.{◌≡◌, true, false, List, ◌⊎◌, ℕ, zero, suc, ◌+◌, ◌*◌, ◌/◌, ◌^◌, ◌≤◌, ◌<◌, ℤ, pos, negsuc, nat_abs, ◌≤ℤ◌, ◌<ℤ◌, length, get_or, Float}
use Rattle.std.specs.Float.{binary32}
use Rattle.std.specs.Float.Ieee.{is_nan, to_signed}
use Rattle.wholes.specs.Whole.{round_of}
use Rattle.codes.specs.declared.Code.{Code}
use Rattle.codes.specs.declared.Code.TheVariants.{Delta, Position, Distance}
use Rattle.control_points.specs.ControlPoints.{pair_at, plus_of, manhattan_of, control_points}
use Rattle.control_points.specs.declared.Pair.{Pair}

-- ---- ranges

-- from -2^23 up to but not including 2^23; negsuc n is -(n + 1)
abbrev pub InRange : ℤ → Type 0
InRange v = (negsuc 8388607 ≤ℤ v) × (v <ℤ pos 8388608)

abbrev pub Beyond : ℤ → Type 0
Beyond v = (v <ℤ negsuc 8388607) ⊎ (pos 8388608 ≤ℤ v)

-- both coordinates are in the range, or one is beyond it
abbrev pub Inside : Pair → Type 0
Inside p = InRange p.x × InRange p.y

abbrev pub Outside : Pair → Type 0
Outside p = Beyond p.x ⊎ Beyond p.y

-- both magnitudes are below 2^30, or one is 2^30 or more
abbrev pub Small : Pair → Type 0
Small p = (nat_abs p.x < 2 ^ 30) × (nat_abs p.y < 2 ^ 30)

abbrev pub Large : Pair → Type 0
Large p = (2 ^ 30 ≤ nat_abs p.x) ⊎ (2 ^ 30 ≤ nat_abs p.y)

-- ---- the start

-- a coordinate of a start, half away from zero
abbrev pub rounded_start : Float → ℤ
rounded_start c = to_signed 31 (round_of binary32 c)

-- it is a number whose rounding is v, in the range
pub record RoundsTo (c : Float) (v : ℤ) : Type 0 where
  pub number : is_nan c ≡ false
  pub is : v ≡ rounded_start c
  pub inside : InRange v

-- it is NaN, or its rounding is beyond the range
abbrev pub Strays : Float → Type 0
Strays c = (is_nan c ≡ true) ⊎ Beyond (rounded_start c)

-- ---- the pairs of double deltas

-- nowhere: no delta yet
abbrev pub nowhere : Pair
nowhere = record { x = pos 0; y = pos 0 }

-- p and f 0, f 1, .. up to f (n - 1), summed
unfoldable pub plus_up_to : Pair → (ℕ → Pair) → ℕ → Pair
plus_up_to p f zero = p
plus_up_to p f (suc n) = plus_of (plus_up_to p f n) (f n)

-- f 0, f 1, .. up to f (n - 1), summed
unfoldable pub sum_up_to : (ℕ → ℕ) → ℕ → ℕ
sum_up_to f zero = 0
sum_up_to f (suc n) = sum_up_to f n + f n

-- the delta at pair j: the double deltas up to it, summed
unfoldable pub delta_at : List ℤ → ℕ → Pair
delta_at ds j = plus_up_to nowhere (pair_at ds) (suc j)

-- the point at pair j: the start and the deltas up to it, summed
unfoldable pub control_point_at : Pair → List ℤ → ℕ → Pair
control_point_at start ds j = plus_up_to start (delta_at ds) (suc j)

-- the Manhattan sum at pair j: both magnitudes of the deltas up to it, summed
unfoldable pub far_at : List ℤ → ℕ → ℕ
far_at ds j = sum_up_to (λ i. manhattan_of (delta_at ds i)) (suc j)

-- of all pairs
unfoldable pub far_of : List ℤ → ℕ
far_of ds = sum_up_to (λ i. manhattan_of (delta_at ds i)) (length ds / 2)

module _ (limit : ℕ) (start : Pair) (ds : List ℤ) (j : ℕ) where
  -- pair j passes its four checks
  pub record PairPasses : Type 0 where
    pub small : Small (pair_at ds j)
    pub delta : Inside (delta_at ds j)
    pub near : far_at ds j ≤ limit
    pub point : Inside (control_point_at start ds j)

  -- the first of its checks that fails
  pub data PairRefusal : Code → Type 0 where
    -- 5: a double delta of magnitude 2^30 or more
    delta_large : Large (pair_at ds j) → PairRefusal Delta
    -- 10: the delta
    delta_outside : Small (pair_at ds j) → Outside (delta_at ds j) → PairRefusal Position
    -- 11: the Manhattan sum above the area limit
    too_far : Small (pair_at ds j) → Inside (delta_at ds j) → limit < far_at ds j → PairRefusal Distance
    -- 10: the point
    point_outside : Small (pair_at ds j) → Inside (delta_at ds j) → far_at ds j ≤ limit → Outside (control_point_at start ds j) → PairRefusal Position

-- two adjacent points of a list are equal
pub record Adjacent (points : List Pair) : Type 0 where
  pub j : ℕ
  pub inside : suc j < length points
  pub equal : get_or points j nowhere ≡ get_or points (suc j) nowhere

-- ---- a statement

-- the control point after pair j is the point at pair j
abbrev pub PointsAre : Type 0
PointsAre = (start : Pair) (ds : List ℤ) (j : ℕ) → 2 * j + 2 ≤ length ds → get_or (control_points start ds) (suc j) nowhere ≡ control_point_at start ds j
