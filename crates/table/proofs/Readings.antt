-- A reading of the scope on a build: double deltas (1, 0), (-1, 0) are COINCIDE.
use mathlib.Core.Path.{◌≡◌, sym, subst}
use mathlib.Core.List.{List, [], ◌∷◌}
use Prim.Native.Nat.{ℕ, suc, ◌≤◌, ◌<◌}
use native.Mathlib.Omega.{arith}
use lib.IntN.{ℤ, pos, negsuc, ◌+ℤ◌, +ℤ_idr}
use lib.ListN.{length}
use Rattle.codes.specs.declared.Code.TheVariants as Code
use Rattle.control_points.specs.ControlPoints.{plus_of, stand_at, moved_of, later_points, control_points}
use Rattle.dequantize.specs.Judge.{Description, deltas_of, total_of}
use Rattle.control_points.specs.Refusals.{Adjacent}
use Rattle.dequantize.specs.Refusals.{Traces, SplinePasses, points_meet}
use Rattle.control_points.specs.declared.Pair.{Pair}
use Rattle.build_answer.specs.BuildAnswer.{Refused}
use Rattle.table.specs.Table.{BuildRooms, Setting, given_of, build_of}
use Rattle.table.specs.Segments.{Fits}
use Rattle.table.specs.Refusals.{judged}
use Rattle.table.proofs.Users.{refused_exactly}

-- the second delta is nothing
stays : (a b : ℤ) → ◌≡◌ {A = Pair} (record { x = a; y = b }) (record { x = a +ℤ pos 0; y = b +ℤ pos 0 })
stays a b = rw (+ℤ_idr a, +ℤ_idr b)

meet : (p : Pair) → Adjacent (control_points p (pos 1 ∷ pos 0 ∷ negsuc 0 ∷ pos 0 ∷ []))
unfolding plus_of stand_at moved_of later_points control_points
meet p = record { j = 1; inside = omega arith; equal = stays (p.x +ℤ pos 1) (p.y +ℤ pos 0) }

-- the code and the place, where the splines before it pass, its own pairs too, and AREA does not come first
pub coincide_code : (d : Description) (i : Setting) (r : BuildRooms) (k : ℕ) → Fits d i r → k < length d.counts → ((j : ℕ) → j < k → SplinePasses d (given_of i) j)
    → Traces d (given_of i) k → total_of d (given_of i) (suc k) ≤ (given_of i).limit → deltas_of d k ≡ (pos 1 ∷ pos 0 ∷ negsuc 0 ∷ pos 0 ∷ [])
    → (build_of d i r).answer ≡ Refused Code.Coincide k
coincide_code d i r k f h p t a e =
    let m = subst (λ (ds : List ℤ). Adjacent (control_points t.start ds)) (sym e) (meet t.start) in
    (refused_exactly d i r Code.Coincide k).1 (judged f (record { is_there = h; before = p; why = points_meet t a m }))

-- Assumes nothing.
