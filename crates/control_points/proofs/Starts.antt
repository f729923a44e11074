-- A start that is taken passes the check of a point: each of its coordinates did.
use mathlib.Core.Path.{◌≡◌, refl, sym, ap, ◌∙◌, subst}
use mathlib.Core.Bool.{Bool, true, false, cond}
use Prim.Native.Nat.{ℕ}
use native.Mathlib.Omega.{arith}
use lib.IntN.{ℤ}
use lib.Ieee.{Float, binary32, is_nan, to_signed}
use Rattle.wholes.specs.Whole.{round_of}
use Rattle.control_points.specs.ControlPoints.{in_range, rounded_of, joined, starting_point, valid_point_pos}
use Rattle.control_points.specs.declared.Pair.{Pair}
use Rattle.control_points.specs.Answers.{Coordinate, At, Out}
use Rattle.control_points.proofs.ByKind.{start_by_kind}

picked : (n i : Bool) (z w : ℤ) → cond n Out (cond i (At z) Out) ≡ At w → (i ≡ true) × (z ≡ w)
picked true i z w h = absurd (let e : ◌≡◌ {A = ℕ} 0 1 = cc in omega arith)
picked false true z w h = (refl, cc)
picked false false z w h = absurd (let e : ◌≡◌ {A = ℕ} 0 1 = cc in omega arith)

pub taken : (x : Float) (w : ℤ) → rounded_of x ≡ At w → in_range w ≡ true
taken x w h =
    let z = to_signed 31 (round_of binary32 x) in
    let p = picked (is_nan x) (in_range z) z w (sym (start_by_kind x) ∙ h) in
    subst (λ (v : ℤ). in_range v ≡ true) p.1 p.0

parts : (p q : Coordinate) (s : Pair) → joined p q ≡ At s → (p ≡ At s.x) × (q ≡ At s.y)
parts Out q s h = absurd (let e : ◌≡◌ {A = ℕ} 0 1 = cc in omega arith)
parts (At a) Out s h = absurd (let e : ◌≡◌ {A = ℕ} 0 1 = cc in omega arith)
parts (At a) (At b) s h =
    let e : ◌≡◌ {A = Pair} (record { x = a; y = b }) s = cc in
    (ap (λ (t : Pair). At t.x) e, ap (λ (t : Pair). At t.y) e)

pub start_valid : (x y : Float) (p : Pair) → starting_point x y ≡ At p → valid_point_pos p ≡ true
unfolding starting_point valid_point_pos
start_valid x y p h =
    let b = parts (rounded_of x) (rounded_of y) p h in
    rw (taken x p.x b.0, taken y p.y b.1)

-- Assumes nothing.
