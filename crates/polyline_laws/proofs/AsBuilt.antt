-- What export writes building refuses by DISTANCE or AREA alone, and what building passes export refuses by ROOM alone.
use mathlib.Core.Path.{◌≡◌, refl, sym, subst, ◌∙◌}
use mathlib.Core.Bool.{Bool, true, false, cond, true≢false}
use mathlib.Core.List.{List}
use mathlib.Core.Logic.{◌⊎◌, inl, inr}
use Prim.Native.Nat.{ℕ, ◌+◌, ◌*◌, ◌≤◌}
use native.Mathlib.Omega.{arith}
use lib.Dec.{ltb}
use lib.ListN.{length}
use lib.IntN.{ℤ}
use lib.Ieee.{Float}
use Rattle.codes.proofs.Refusals.{same_refusal}
use Rattle.codes.specs.declared.Code.{Code}
use Rattle.codes.specs.declared.Code.TheVariants.{Room, Distance, Area}
use Rattle.codes.proofs.Decides.{Decides}
use Rattle.write_judge.specs.Verdict.{Fine, Fault}
use Rattle.control_points.specs.ControlPoints.{control_points, pair_at}
use Rattle.dequantize.specs.Judge.{Description, description_of, start_x, start_y, deltas_of}
use Rattle.control_points.specs.Refusals.{RoundsTo, Adjacent, delta_at, control_point_at, PairRefusal, delta_large, delta_outside, too_far, point_outside}
use Rattle.dequantize.specs.Refusals.{SplinePasses, SplineRefusal, start_strays, pair_refused, area_above, points_meet}
use Rattle.dequantize.specs.declared.Given.{Given}
use Rattle.control_points.specs.declared.Pair.{Pair}
use Rattle.control_points.specs.Answers as S
use Rattle.control_points.proofs.Ranges.{point_decides, double_delta_decides, starting_out}
use Rattle.polyline.specs.Write.{spline_text, write_verdict, write_points_of}
use Rattle.polyline_laws.specs.Refusals.{There, Goes, points_by}
use Rattle.polyline_laws.proofs.Answers.{wrote}
use Rattle.polyline_laws.proofs.Legal.{pair_is}
use Rattle.polyline_laws.proofs.WriteWhen.{begins, goes_fine, there_verdict}
use Rattle.writer.specs.WriteAnswer.{Refused}

-- a test does not decide both ways
not_both : {b : Bool} {A B X : Type 0} → Decides b A B → A → B → X
not_both {b} d x y = absurd (true≢false (sym (d.passes x) ∙ d.fails y))

module _ (d : Description) (k : ℕ) (g : Goes d k) (apart : Adjacent (points_by d k g) → ⊥) where
  one_start : (p : Pair) → RoundsTo (start_x d k) p.x → RoundsTo (start_y d k) p.y → p ≡ g.start
  one_start p x y = pair_is p g.start (x.is ∙ sym g.x.is) (y.is ∙ sym g.y.is)

  pair_code : (s : Given) (c : Code) (j : ℕ) → 2 * j + 2 ≤ length (deltas_of d k) → PairRefusal s.limit g.start (deltas_of d k) j c → (c ≡ Distance) ⊎ (c ≡ Area)
  pair_code s c j h (delta_large a) = not_both (double_delta_decides (pair_at (deltas_of d k) j)) (g.pairs j h).small a
  pair_code s c j h (delta_outside a b) = not_both (point_decides (delta_at (deltas_of d k) j)) (g.pairs j h).delta b
  pair_code s c j h (too_far a b m) = inl refl
  pair_code s c j h (point_outside a b m p) = not_both (point_decides (control_point_at g.start (deltas_of d k) j)) (g.pairs j h).point p

  -- building's table gives such a spline no code but these two
  pub built_code : (s : Given) (c : Code) → SplineRefusal d s k c → (c ≡ Distance) ⊎ (c ≡ Area)
  built_code s c (start_strays o) =
      let e : S.At g.start ≡ S.Out = sym (begins d k g) ∙ starting_out (start_x d k) (start_y d k) o in
      let z : ◌≡◌ {A = ℕ} 0 1 = cc in
      absurd (omega arith)
  built_code s c (pair_refused p x y j h b w) = pair_code s c j h (subst (λ (q : Pair). PairRefusal s.limit q (deltas_of d k) j c) (one_start p x y) w)
  built_code s c (area_above t l) = inr refl
  built_code s c (points_meet t l a) = absurd (apart (subst (λ (q : Pair). Adjacent (control_points q (deltas_of d k))) (one_start t.start t.x t.y) a))

-- a spline that building passes goes all the way
passes_goes : (d : Description) (s : Given) (k : ℕ) → SplinePasses d s k → Goes d k
passes_goes d s k p = record {
  start = p.traces.start;
  x = p.traces.x;
  y = p.traces.y;
  pairs = λ j h. let q = p.traces.pairs j h in record { small = q.small; delta = q.delta; point = q.point };
}

module _ (ns : List ℕ) (ss : List Float) (ds cs : List ℤ) (k room : ℕ) where
  room_alone : (b : Bool) (c : Code) (p : ℕ) → cond b (Fault Room k) Fine ≡ Fault c p → c ≡ Room
  room_alone true c p e = sym (same_refusal e).0
  room_alone false c p e = cc

  pub passed_code : There ns ss ds cs k → (s : Given) → SplinePasses (description_of ns ss ds cs) s k → (c : Code) (p : ℕ) → (write_points_of ns ss ds cs k room).answer ≡ Refused c p → c ≡ Room
  unfolding write_points_of passes_goes
  passed_code t s h c p e =
      let d = description_of ns ss ds cs in
      let f = goes_fine d k (passes_goes d s k h) h.apart in
      let v = wrote room (spline_text d k) (write_verdict ns ss ds cs k room) c p e in
      room_alone (ltb room (length (spline_text d k))) c p (sym (there_verdict ns ss ds cs k room t ∙ rw f) ∙ v)

-- Assumes nothing.
