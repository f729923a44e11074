-- What the code asks for in its contracts: sums that fit, a run that no check has stopped, control points that may be gone through again. Definitions only.
use Rattle.std.specs.Prelude.{◌≡◌, Bool, true, false, cond, List, [], ◌∷◌, ℕ, ◌≤◌, ◌<◌, ℤ}
use Rattle.std.specs.Int.Signed.{mag}
use Rattle.control_points.specs.ControlPoints.{valid_point_pos, valid_double_delta, plus_of, moved_of}
use Rattle.control_points.specs.declared.Pair.{Pair}
use Rattle.control_points.specs.declared.Stand.{Stand}
use Rattle.control_points.specs.declared.Run.{Run}

-- the sum of two such pairs fits
pub record Fine (p : Pair) : Type 0 where
  pub x : mag p.x < 1073741824
  pub y : mag p.y < 1073741824

-- what a run that no check has stopped keeps
pub record Held (r : Run) (limit : ℕ) : Type 0 where
  pub delta : Fine r.delta
  pub point : valid_point_pos r.point ≡ true
  pub manhattan : r.manhattan ≤ limit

-- the sums of a move fit
pub record Moves (p : Stand) (dd : Pair) : Type 0 where
  pub delta : Fine p.delta
  pub more : Fine dd
  pub next : Fine (plus_of p.delta dd)
  pub point : Fine p.point

-- every double delta, delta and point on the way from p passes its check
unfoldable pub passes : Stand → List ℤ → Bool
passes p [] = true
passes p (a ∷ []) = true
passes p (a ∷ b ∷ ds) =
    let q = moved_of p (record { x = a; y = b }) in
    cond (valid_double_delta (record { x = a; y = b })) (cond (valid_point_pos q.delta) (cond (valid_point_pos q.point) (passes q ds) false) false) false

-- the control points from p on may be gone through again
pub record Passable (p : Stand) (ds : List ℤ) : Type 0 where
  pub delta : valid_point_pos p.delta ≡ true
  pub point : valid_point_pos p.point ≡ true
  pub rest : passes p ds ≡ true
