-- COINCIDE: a delta of nothing is what makes two adjacent points the same, and the flag of a run is the test over the whole list of points.
use mathlib.Core.Path.{◌≡◌, refl, sym, ap, subst, ◌∙◌}
use mathlib.Core.Bool.{Bool, true, false, cond}
use mathlib.Core.List.{List, [], ◌∷◌}
use mathlib.Core.Logic.{◌↔◌}
use Prim.Native.Nat.{ℕ, suc, ◌+◌, ◌-◌, ◌<◌, ◌≤◌}
use native.Mathlib.Omega.{arith}
use lib.Dec.{eqb, ltb}
use lib.IntN.{ℤ, pos, negsuc, nat_abs, ◌+ℤ◌}
use borrow.Author.Tests.{eqb-true, eqb-false, eq-eqb, ne_eqb, ltb-true, ltb-false}
use Rattle.control_points.specs.ControlPoints.{onward, step_of, trace_from, trace_of, run_at, plus_of, manhattan_of, moved_of, stand_at, later_points, control_points, valid_point_pos, same_point, coincide_from, adjacent_coincide}
use Rattle.control_points.specs.declared.Pair.{Pair}
use Rattle.control_points.specs.declared.Stand.{Stand}
use Rattle.control_points.specs.declared.Run.{Run}
use Rattle.control_points.specs.Answers.{Traced, On, Stop}
use Rattle.codes.proofs.Decides.{both}
use Rattle.control_points.proofs.Pairs.{point_range}
use Rattle.control_points.proofs.Near.{eqb_same, eq_z, near_is}
use Rattle.control_points.proofs.Steps.{onto, step_went}

-- ---- two points are the same exactly when they are equal

equal : (a b : ℤ) → eq_z a b ≡ true → a ≡ b
equal (pos a) (pos b) h = ap pos (eqb-true a b h)
equal (pos a) (negsuc b) h = absurd (let z : ◌≡◌ {A = ℕ} 0 1 = cc in omega arith)
equal (negsuc a) (pos b) h = absurd (let z : ◌≡◌ {A = ℕ} 0 1 = cc in omega arith)
equal (negsuc a) (negsuc b) h = ap negsuc (eqb-true a b h)

equal_self : (a : ℤ) → eq_z a a ≡ true
equal_self (pos a) = eq-eqb a a refl
equal_self (negsuc a) = eq-eqb a a refl

module _ (p q : Pair) (g : valid_point_pos p ≡ true) (h : valid_point_pos q ≡ true) where
  pub same_point_is : same_point p q ≡ cond (eq_z p.x q.x) (eq_z p.y q.y) false
  unfolding same_point
  same_point_is =
      let a = point_range p g in
      let b = point_range q h in
      rw (near_is p.x q.x a.0 b.0, near_is p.y q.y a.1 b.1)

  pub same_point_lem : (same_point p q ≡ true) ↔ (p ≡ q)
  same_point_lem = (
    λ e. let b = both (eq_z p.x q.x) (eq_z p.y q.y) (sym same_point_is ∙ e) in
        joined p q (equal p.x q.x b.0) (equal p.y q.y b.1),
    λ e. same_point_is ∙ rw (← e, equal_self p.x, equal_self p.y),
  )
    where
      joined : (p q : Pair) → p.x ≡ q.x → p.y ≡ q.y → p ≡ q
      joined p q a b = rw (a, b)

-- ---- a point and the next

-- z and z + e are equal exactly where e is nothing
moved_same : (z e : ℤ) → eq_z z (z +ℤ e) ≡ eqb (nat_abs e) 0
moved_same (pos a) (pos b) = eqb_same a (a + b) b 0 (λ h. omega arith) (λ h. omega arith)
moved_same (pos a) (negsuc b) = go (ltb a (suc b)) refl
  where
    go : (t : Bool) → ltb a (suc b) ≡ t → eq_z (pos a) (cond t (negsuc (suc b - suc a)) (pos (a - suc b))) ≡ eqb (suc b) 0
    go true h = sym (ne_eqb (suc b) 0 (λ e. omega arith))
    go false h = let g : suc b ≤ a = ltb-false a (suc b) h in eqb_same a (a - suc b) (suc b) 0 (λ e. omega arith) (λ e. omega arith)
moved_same (negsuc a) (pos b) = go (ltb b (suc a)) refl
  where
    go : (t : Bool) → ltb b (suc a) ≡ t → eq_z (negsuc a) (cond t (negsuc (suc a - suc b)) (pos (b - suc a))) ≡ eqb b 0
    go true h = let g : b < suc a = ltb-true b (suc a) h in eqb_same a (suc a - suc b) b 0 (λ e. omega arith) (λ e. omega arith)
    go false h = let g : suc a ≤ b = ltb-false b (suc a) h in sym (ne_eqb b 0 (λ e. omega arith))
moved_same (negsuc a) (negsuc b) = eqb_same a (suc (a + b)) (suc b) 0 (λ h. omega arith) (λ h. omega arith)

both_nil : (m n : ℕ) → cond (eqb m 0) (eqb n 0) false ≡ eqb (m + n) 0
both_nil m n = go (eqb m 0) refl
  where
    go : (t : Bool) → eqb m 0 ≡ t → cond t (eqb n 0) false ≡ eqb (m + n) 0
    go true h = let e : m ≡ 0 = eqb-true m 0 h in eqb_same n 0 (m + n) 0 (λ k. omega arith) (λ k. omega arith)
    go false h = sym (ne_eqb (m + n) 0 (λ e. eqb-false m 0 h (omega arith)))

-- a point and the next are the same exactly where the delta is nothing
pub same_next : (p d : Pair) → valid_point_pos p ≡ true → valid_point_pos (plus_of p d) ≡ true → same_point p (plus_of p d) ≡ eqb (manhattan_of d) 0
unfolding plus_of manhattan_of
same_next p d g h =
    same_point_is p (plus_of p d) g h
    ∙ rw (moved_same p.x d.x, moved_same p.y d.y) (both_nil (nat_abs d.x) (nat_abs d.y))

-- ---- the flag of a run

abbrev pub control_of : Run → Stand
control_of r = record { delta = r.delta; point = r.point }

either : (r e t : Bool) → cond (cond r true e) true t ≡ cond r true (cond e true t)
either true e t = refl
either false e t = refl

alone : (r : Bool) → r ≡ cond r true false
alone true = refl
alone false = refl

ended : (r s : Run) → On r ≡ On s → s.coincide ≡ cond r.coincide true false
ended r s h = let e : r ≡ s = cc in subst (λ (y : Run). y.coincide ≡ cond r.coincide true false) e (alone r.coincide)

-- the flag, and what is said of the points after r
abbrev flagged : Run → List ℤ → Bool
flagged r ds = cond r.coincide true (coincide_from r.point (later_points (control_of r) ds))

stepped : (limit : ℕ) (r : Run) (dd : Pair) (ds : List ℤ) (s : Run)
    → ((t : Run) → trace_from limit t ds ≡ On s → s.coincide ≡ flagged t ds)
    → (q : Traced) → step_of limit r dd ≡ q → onward q (λ t. trace_from limit t ds) ≡ On s
    → s.coincide ≡ cond r.coincide true (coincide_from r.point ((moved_of (control_of r) dd).point ∷ later_points (moved_of (control_of r) dd) ds))
unfolding moved_of coincide_from
stepped limit r dd ds s rest (Stop code) e g = absurd (let z : ◌≡◌ {A = ℕ} 0 1 = cc in omega arith)
stepped limit r dd ds s rest (On t) e g =
    let k : trace_from limit (onto r dd) ds ≡ On s = rw (step_went limit r dd t e).is g in
    rest (onto r dd) k ∙ either r.coincide (same_point r.point (plus_of r.point (plus_of r.delta dd))) _

flag_is : (limit : ℕ) (r : Run) (ds : List ℤ) (s : Run) → trace_from limit r ds ≡ On s → s.coincide ≡ flagged r ds
unfolding trace_from later_points coincide_from
flag_is limit r [] s h = ended r s h
flag_is limit r (a ∷ []) s h = ended r s h
flag_is limit r (a ∷ b ∷ ds) s h =
    stepped limit r (record { x = a; y = b }) ds s (λ t. flag_is limit t ds s) (step_of limit r (record { x = a; y = b })) refl h

-- the flag of a spline that was not refused is the test over all its control points
pub coincides : (limit : ℕ) (start : Pair) (ds : List ℤ) (s : Run) → trace_of limit start ds ≡ On s → s.coincide ≡ adjacent_coincide (control_points start ds)
unfolding trace_of run_at stand_at control_points adjacent_coincide
coincides limit start ds s h = flag_is limit (run_at start) ds s h

-- Assumes nothing.
