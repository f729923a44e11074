-- Laws of the answers of writing: the spline's part of the double deltas, and what is left.
use mathlib.Core.Path.{◌≡◌, refl, ap, ◌∙◌}
use mathlib.Core.Bool.{Bool, true, false, cond}
use mathlib.Core.Logic.{◌⊎◌, inl, inr}
use Rattle.std.specs.Result.{is_err}
use mathlib.Core.List.{List, [], ◌∷◌}
use Prim.Native.Nat.{ℕ, zero, suc, ◌+◌, ◌-◌, ◌*◌, ◌<◌, ◌≤◌}
use native.Mathlib.Omega.{arith}
use lib.Dec.{ltb}
use lib.IntN.{ℤ}
use lib.Ieee.{Float, nan}
use lib.ListN.{length, get_or, take, drop, replicate, length-replicate}
use borrow.Author.Tests.{ltb-false, le-leb, lt-leb}
use Rattle.codes.specs.declared.Code.TheVariants.{Shape, Room}
use Rattle.shape.specs.Shape.{points_of, shaped}
use Rattle.writer.specs.Write.{misshapen, leaves}
use Rattle.writer.specs.Write as writing
use Rattle.write_judge.specs.Verdict.{Verdict}
use Rattle.write_judge.specs.Verdict.{Fine, Fault}
use Rattle.writer.specs.WriteAnswer.{WriteAnswer, Refused}
use Rattle.write_judge.proofs.Checks.{agreed}
use Rattle.write_steps.proofs.Stores.{zeros_after}
use Rattle.control_points.specs.ControlPoints.{starting_point}
use Rattle.dequantize.specs.Judge.{start_x, start_y, deltas_at, deltas_of}
use Rattle.polyline.specs.Read.{and_then}
use Rattle.polyline.specs.Write.{begun, text_at, spline_verdict, spline_text, no_spline, write_verdict, write_points_of}
use Rattle.polyline_spline.specs.Steps.{one_verdict, OneLeaves}
use Rattle.polyline_write.specs.Steps.{part_of, Parted}

-- ---- its part

sum_more : (ns : List ℕ) (k : ℕ) → k < length ns → points_of (take (suc k) ns) ≡ points_of (take k ns) + get_or ns k 0
sum_more [] k h = absurd (omega arith)
sum_more (n ∷ ns) zero h = omega arith
sum_more (n ∷ ns) (suc k) h = omega (arith, sum_more ns k (omega arith))

sum_part : (ns : List ℕ) (k : ℕ) → points_of (take k ns) ≤ points_of ns
sum_part ns zero = omega arith
sum_part [] (suc k) = omega arith
sum_part (n ∷ ns) (suc k) = omega (arith, sum_part ns k)

pub at_more : (ns : List ℕ) (i : ℕ) → i < length ns → 2 * points_of (take i ns) + 2 * get_or ns i 0 ≡ 2 * points_of (take (i + 1) ns)
at_more ns i h = let e : i + 1 ≡ suc i = omega arith in rw e (omega (arith, sum_more ns i h))

pub at-fits : (ns : List ℕ) (i : ℕ) → i < length ns → 2 * points_of (take i ns) + 2 * get_or ns i 0 ≤ 2 * points_of ns
at-fits ns i h = omega (arith, sum_more ns i h, sum_part ns (suc i))

pub part_is : (ns : List ℕ) (ds : List ℤ) (k from to w : ℕ) → from ≡ 2 * points_of (take k ns) → w ≡ get_or ns k 0 → to ≡ from + 2 * w → take (to - from) (drop from ds) ≡ part_of ns ds k
unfolding part_of
part_is ns ds k from to w a b c = let e : to - from ≡ 2 * get_or ns k 0 = omega arith in rw (e, a)

-- ---- the whole call

module _ (ns : List ℕ) (ss : List Float) (ds cs : List ℤ) (k room : ℕ) where
  pub parted : shaped ns ss ds cs ≡ true → k < length ns → Parted ns ss ds k
  unfolding misshapen
  parted e h = let a = agreed ns ss ds cs (rw e) in record { there = h; starts = a.0; deltas = a.1 }

  pub call-shape : (l : List ℕ) → l ≡ replicate room 0 → (shaped ns ss ds cs ≡ false) ⊎ ((shaped ns ss ds cs ≡ true) × (length ns ≤ k)) → leaves (Refused Shape 0) l ≡ write_points_of ns ss ds cs k room
  unfolding write_points_of write_verdict no_spline misshapen
  call-shape l z (inl e) = rw (z, e)
  call-shape l z (inr e) = rw (z, e.0, le-leb (length ns) k e.1)

  module _ (good : shaped ns ss ds cs ≡ true) where
    module _ (there : k < length ns) (l l' : List ℕ) (zs : l ≡ replicate room 0) (r : WriteAnswer)
        (one : OneLeaves (text_at (part_of ns ds k) (starting_point (get_or ss (2 * k) nan) (get_or ss (2 * k + 1) nan)))
        (one_verdict k (part_of ns ds k) (starting_point (get_or ss (2 * k) nan) (get_or ss (2 * k + 1) nan)) (length l)) r l l') where
      abbrev itsText : List ℕ
      itsText = text_at (part_of ns ds k) (starting_point (get_or ss (2 * k) nan) (get_or ss (2 * k + 1) nan))

      abbrev itsVerdict : Verdict
      itsVerdict = one_verdict k (part_of ns ds k) (starting_point (get_or ss (2 * k) nan) (get_or ss (2 * k + 1) nan)) room

      length-l : length l ≡ room
      length-l = ap length zs ∙ length-replicate room 0

      call-is : writing.outcome room itsText itsVerdict ≡ write_points_of ns ss ds cs k room
      unfolding write_points_of write_verdict no_spline misshapen spline_verdict spline_text start_x start_y deltas_of deltas_at part_of
      call-is = rw (good, lt-leb (length ns) k there)

      roomy : (v : Verdict) → and_then v (cond (ltb room (length itsText)) (Fault Room k) Fine) ≡ Fine → length itsText ≤ room
      roomy (Fault c p) e = cc
      roomy Fine e = go (ltb room (length itsText)) refl e
        where
          go : (b : Bool) → ltb room (length itsText) ≡ b → cond b (Fault Room k) Fine ≡ Fine → length itsText ≤ room
          go true x e = cc
          go false x e = ltb-false room (length itsText) x

      pub call-done : is_err r ≡ false → leaves r l' ≡ write_points_of ns ss ds cs k room
      call-done good = go itsVerdict refl (rw length-l at one) ∙ call-is
        where
          go : (v : Verdict) → itsVerdict ≡ v → OneLeaves itsText v r l l' → leaves r l' ≡ writing.outcome room itsText v
          go Fine x o =
              let h = roomy (begun k (part_of ns ds k) (starting_point (get_or ss (2 * k) nan) (get_or ss (2 * k + 1) nan))) x in
              rw (o.leaves.0, o.leaves.1, zs, zeros_after room itsText h)
          go (Fault c p) x o = let bad = rw o.leaves at good in cc

      pub call-refused : (l'' : List ℕ) → is_err r ≡ true → l'' ≡ replicate (length l') 0 → length l' ≡ length l → leaves r l'' ≡ write_points_of ns ss ds cs k room
      call-refused l'' bad z same = go itsVerdict (rw length-l at one) ∙ call-is
        where
          go : (v : Verdict) → OneLeaves itsText v r l l' → leaves r l'' ≡ writing.outcome room itsText v
          go Fine o = let good = rw o.leaves.0 at bad in cc
          go (Fault c p) o = rw (o.leaves, z, same ∙ length-l)

-- Assumes nothing.
