-- The codes of judging, and when each is given: a spline that passes, and what refuses it. Definitions only.
-- Each check of a start and of a pair, as a statement on whole numbers, is in `Refusals` of the crate control_points. That judging refuses exactly so is `judged_exactly` of proofs/Refusals.antt.
use Rattle.std.specs.Prelude.{◌≡◌, ℕ, suc, ◌+◌, ◌*◌, ◌<◌, ◌≤◌, ◌⊎◌, length}
use Rattle.codes.specs.declared.Code.{Code}
use Rattle.codes.specs.declared.Code.TheVariants.{Position, Area, Coincide}
use Rattle.control_points.specs.ControlPoints.{control_points}
use Rattle.control_points.specs.Refusals.{RoundsTo, Strays, far_of, PairPasses, PairRefusal, Adjacent}
use Rattle.control_points.specs.declared.Pair.{Pair}
use Rattle.estimate.specs.Estimate.{estimate_of}
use Rattle.dequantize.specs.Coefficients.{inv_adjusted_quant}
use Rattle.dequantize.specs.Judge.{Description, start_x, start_y, deltas_of, coefficients_of, spline_of, total_of}
use Rattle.dequantize.specs.declared.Given.{Given}

-- ---- the splines

module _ (d : Description) (g : Given) where
  -- the spline k begins at a place, and all its pairs pass
  pub record Traces (k : ℕ) : Type 0 where
    pub start : Pair
    pub x : RoundsTo (start_x d k) start.x
    pub y : RoundsTo (start_y d k) start.y
    pub pairs : (j : ℕ) → 2 * j + 2 ≤ length (deltas_of d k) → PairPasses g.limit start (deltas_of d k) j

  -- the spline k passes all its checks
  pub record SplinePasses (k : ℕ) : Type 0 where
    pub traces : Traces k
    pub area : total_of d g (suc k) ≤ g.limit
    pub apart : Adjacent (control_points traces.start (deltas_of d k)) → ⊥

  -- the first of its checks that fails
  pub data SplineRefusal (k : ℕ) : Code → Type 0 where
    -- 10: a start that is NaN or outside
    start_strays : Strays (start_x d k) ⊎ Strays (start_y d k) → SplineRefusal k Position
    -- 5, 10, 11: a pair, where all pairs before it pass
    pair_refused : {c : Code} (start : Pair) → RoundsTo (start_x d k) start.x → RoundsTo (start_y d k) start.y
        → (j : ℕ) → 2 * j + 2 ≤ length (deltas_of d k) → ((i : ℕ) → i < j → PairPasses g.limit start (deltas_of d k) i)
        → PairRefusal g.limit start (deltas_of d k) j c → SplineRefusal k c
    -- 12: the summed estimate above the area limit
    area_above : Traces k → g.limit < total_of d g (suc k) → SplineRefusal k Area
    -- 13: two adjacent control points equal
    points_meet : (t : Traces k) → total_of d g (suc k) ≤ g.limit → Adjacent (control_points t.start (deltas_of d k)) → SplineRefusal k Coincide

  -- all splines pass
  pub record AllPass : Type 0 where
    pub each : (k : ℕ) → k < length d.counts → SplinePasses k

  -- the spline k is the first that is refused
  pub record FirstRefused (c : Code) (k : ℕ) : Type 0 where
    pub is_there : k < length d.counts
    pub before : (i : ℕ) → i < k → SplinePasses i
    pub why : SplineRefusal k c

-- ---- a statement

-- the estimate of a spline whose pairs pass is made of its coefficients and its Manhattan sum
abbrev pub EstimateIs : Type 0
EstimateIs =
    (d : Description) (g : Given) (k : ℕ) → Traces d g k
    → (spline_of d g k).estimate ≡ estimate_of (coefficients_of d k) (inv_adjusted_quant g.adjustment) g.y_to_x g.y_to_b g.limit (far_of (deltas_of d k))
