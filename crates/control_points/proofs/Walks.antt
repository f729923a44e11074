-- The control points of a spline that a trace has passed may be gone through again: every sum fits, and every point is in the range.
use mathlib.Core.Path.{◌≡◌, refl}
use mathlib.Core.Bool.{Bool, true, false, cond}
use mathlib.Core.List.{List, [], ◌∷◌}
use Prim.Native.Nat.{ℕ, ◌+◌, ◌*◌, ◌/◌, ◌<◌, ◌≤◌}
use native.Mathlib.Omega.{arith}
use lib.IntN.{ℤ}
use lib.ListN.{length, drop}
use Rattle.control_points.specs.ControlPoints.{onward, step_of, trace_from, trace_of, run_at, pair_at, plus_of, moved_of, stand_at, later_points, control_points, valid_double_delta, valid_point_pos}
use Rattle.control_points.specs.Asked.{passes, Passable, Moves}
use Rattle.control_points.specs.declared.Pair.{Pair}
use Rattle.control_points.specs.declared.Stand.{Stand}
use Rattle.control_points.specs.declared.Run.{Run}
use Rattle.control_points.specs.Answers.{Traced, On, Stop}
use Rattle.codes.proofs.Decides.{both}
use Rattle.control_points.proofs.Pairs.{point_fine, double_delta_fine}
use Rattle.control_points.proofs.Steps.{onto, step_went, pair_drop}
use Rattle.control_points.proofs.Coincide.{control_of}

-- ---- from a trace to a walk

stepped : (limit : ℕ) (r : Run) (dd : Pair) (ds : List ℤ) (s : Run)
    → ((t : Run) → trace_from limit t ds ≡ On s → passes (control_of t) ds ≡ true)
    → (q : Traced) → step_of limit r dd ≡ q → onward q (λ t. trace_from limit t ds) ≡ On s
    → let p = moved_of (control_of r) dd in
    cond (valid_double_delta dd) (cond (valid_point_pos p.delta) (cond (valid_point_pos p.point) (passes p ds) false) false) false ≡ true
unfolding moved_of
stepped limit r dd ds s rest (Stop code) e g = absurd (let z : ◌≡◌ {A = ℕ} 0 1 = cc in omega arith)
stepped limit r dd ds s rest (On t) e g =
    let w = step_went limit r dd t e in
    let k : trace_from limit (onto r dd) ds ≡ On s = rw w.is g in
    rw (w.small, w.delta, w.point) (rest (onto r dd) k)

trace_walks : (limit : ℕ) (r : Run) (ds : List ℤ) (s : Run) → trace_from limit r ds ≡ On s → passes (control_of r) ds ≡ true
unfolding trace_from passes
trace_walks limit r [] s h = refl
trace_walks limit r (a ∷ []) s h = refl
trace_walks limit r (a ∷ b ∷ ds) s h =
    stepped limit r (record { x = a; y = b }) ds s (λ t. trace_walks limit t ds s) (step_of limit r (record { x = a; y = b })) refl h

pub traced_walk : (limit : ℕ) (start : Pair) (ds : List ℤ) (s : Run) → valid_point_pos start ≡ true → trace_of limit start ds ≡ On s → Passable (stand_at start) ds
unfolding trace_of run_at stand_at valid_point_pos
traced_walk limit start ds s h e = record { delta = refl; point = h; rest = trace_walks limit (run_at start) ds s e }

-- ---- the walk at the pair k

module _ (p : Stand) (ds : List ℤ) (k : ℕ) (h : 2 * k + 2 ≤ length ds) where
  pub points_more : later_points p (drop (2 * k) ds) ≡ (moved_of p (pair_at ds k)).point ∷ later_points (moved_of p (pair_at ds k)) (drop (2 * (k + 1)) ds)
  unfolding later_points
  points_more = rw (pair_drop ds k h)

  module _ (w : Passable p (drop (2 * k) ds)) where
    parts : let q = moved_of p (pair_at ds k) in
        cond (valid_double_delta (pair_at ds k)) (cond (valid_point_pos q.delta) (cond (valid_point_pos q.point) (passes q (drop (2 * (k + 1)) ds)) false) false) false ≡ true
    unfolding passes
    parts = rw (pair_drop ds k h) at w.rest

    pub walk_moves : Moves p (pair_at ds k)
    unfolding moved_of
    walk_moves =
        let d = both (valid_double_delta (pair_at ds k)) _ parts in
        let e = both (valid_point_pos (plus_of p.delta (pair_at ds k))) _ d.1 in
        record { delta = point_fine p.delta w.delta; more = double_delta_fine (pair_at ds k) d.0; next = point_fine (plus_of p.delta (pair_at ds k)) e.0; point = point_fine p.point w.point }

    pub walk_more : Passable (moved_of p (pair_at ds k)) (drop (2 * (k + 1)) ds)
    walk_more =
        let q = moved_of p (pair_at ds k) in
        let d = both (valid_double_delta (pair_at ds k)) _ parts in
        let e = both (valid_point_pos q.delta) _ d.1 in
        let g = both (valid_point_pos q.point) _ e.1 in
        record { delta = e.0; point = g.0; rest = g.1 }

pub points_done : (p : Stand) (ds : List ℤ) → length ds < 2 → later_points p ds ≡ []
unfolding later_points
points_done p [] h = refl
points_done p (a ∷ []) h = refl
points_done p (a ∷ b ∷ ds) h = absurd (omega arith)

pub points_length : (p : Stand) (ds : List ℤ) → length (later_points p ds) ≡ length ds / 2
unfolding later_points
points_length p [] = refl
points_length p (a ∷ []) = refl
points_length p (a ∷ b ∷ ds) = omega (arith, points_length (moved_of p (record { x = a; y = b })) ds)

-- ---- all points at once

unfoldable pub all_in_range : List Pair → Bool
all_in_range [] = true
all_in_range (p ∷ l) = cond (valid_point_pos p) (all_in_range l) false

later_in_range : (p : Stand) (ds : List ℤ) → passes p ds ≡ true → all_in_range (later_points p ds) ≡ true
unfolding passes later_points all_in_range
later_in_range p [] w = refl
later_in_range p (a ∷ []) w = refl
later_in_range p (a ∷ b ∷ ds) w =
    let q = moved_of p (record { x = a; y = b }) in
    let d = both (valid_double_delta (record { x = a; y = b })) _ w in
    let e = both (valid_point_pos q.delta) _ d.1 in
    let g = both (valid_point_pos q.point) _ e.1 in
    rw g.0 (later_in_range q ds g.1)

pub points_in_range : (start : Pair) (ds : List ℤ) → Passable (stand_at start) ds → all_in_range (control_points start ds) ≡ true
unfolding control_points stand_at all_in_range
points_in_range start ds w = rw w.point (later_in_range (stand_at start) ds w.rest)

-- Assumes nothing.
