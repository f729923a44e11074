-- Laws of judging a spline: one double delta, a turn of the loop, and that a spline which passes may be gone along again.
use mathlib.Core.Path.{◌≡◌, refl, sym, ap, ◌∙◌}
use mathlib.Core.Bool.{Bool, true, false, cond}
use mathlib.Core.List.{List, [], ◌∷◌}
use Prim.Native.Nat.{ℕ, ◌+◌, ◌*◌, ◌/◌, ◌<◌, ◌≤◌}
use native.Mathlib.Omega.{arith}
use lib.IntN.{ℤ}
use lib.ListN.{length, drop, length-drop}
use Rattle.codes.specs.declared.Code.{Code}
use Rattle.codes.specs.declared.Code.TheVariants.{Delta, Position}
use Rattle.control_points.specs.ControlPoints.{valid_point_pos, valid_double_delta, same_point, plus_of, moved_of, stand_at, pair_at}
use Rattle.control_points.specs.Asked.{passes, Passable}
use Rattle.control_points.specs.declared.Pair.{Pair}
use Rattle.control_points.specs.declared.Stand.{Stand}
use Rattle.control_points.proofs.Steps.{pair_drop}
use Rattle.polyline.specs.Gone.{Gone, On, Stop}
use Rattle.polyline.specs.Write.{gone_by, onward, gone_from, gone_of}
use Rattle.polyline_spline.specs.Steps.{Placed}

-- ---- one double delta

module _ (p : Stand) (met : Bool) (dd : Pair) where
  module _ (a : valid_double_delta dd ≡ true) (d : Pair) (is : d ≡ plus_of p.delta dd) where
    module _ (b : valid_point_pos d ≡ true) (q : Pair) (to : q ≡ plus_of p.point d) where
      pub gone_on : valid_point_pos q ≡ true → (s : Bool) (r : Gone) → s ≡ same_point p.point q → r ≡ On (record { delta = d; point = q }) (cond met true s) → r ≡ gone_by p met dd
      unfolding gone_by moved_of
      gone_on e s r x y = rw (a, ← is, b, ← to, e, ← x) y

  -- where it leads to passed POSITION
  pub record Went (q : Stand) (m : Bool) : Type 0 where
    pub small : valid_double_delta dd ≡ true
    pub is : q ≡ moved_of p dd
    pub delta : valid_point_pos (moved_of p dd).delta ≡ true
    pub point : valid_point_pos (moved_of p dd).point ≡ true
    pub meets : m ≡ cond met true (same_point p.point (moved_of p dd).point)

  pub gone_went : (q : Stand) (m : Bool) → gone_by p met dd ≡ On q m → Went q m
  unfolding gone_by
  gone_went q m e = go (valid_double_delta dd) (valid_point_pos (moved_of p dd).delta) (valid_point_pos (moved_of p dd).point) refl refl refl e
    where
      go : (a b c : Bool) → valid_double_delta dd ≡ a → valid_point_pos (moved_of p dd).delta ≡ b → valid_point_pos (moved_of p dd).point ≡ c
          → cond a (cond b (cond c (On (moved_of p dd) (cond met true (same_point p.point (moved_of p dd).point))) (Stop Position)) (Stop Position)) (Stop Delta) ≡ On q m → Went q m
      go true true true x y z e =
          let pair : ◌≡◌ {A = Stand × Bool} (moved_of p dd, cond met true (same_point p.point (moved_of p dd).point)) (q, m) = cc in
          record { small = x; is = sym (ap (λ (r : Stand × Bool). r.0) pair); delta = y; point = z; meets = sym (ap (λ (r : Stand × Bool). r.1) pair) }
      go true true false x y z e = cc
      go true false c x y z e = cc
      go false b c x y z e = cc

-- ---- a turn of the loop

pub record Along (first : Stand) (ds : List ℤ) (p : Stand) (met : Bool) (k : ℕ) : Type 0 where
  pub turns : k ≤ length ds / 2
  pub placed : Placed p
  pub left : gone_from p met (drop (2 * k) ds) ≡ gone_from first false ds

pub along_begin : (start : Pair) (ds : List ℤ) (p : Stand) → p ≡ stand_at start → valid_point_pos start ≡ true → Along p ds p false 0
unfolding stand_at valid_point_pos
along_begin start ds p e h = rw e (record { turns = omega arith; placed = record { delta = refl; point = h }; left = refl })

pub from_first : (start : Pair) (ds : List ℤ) (p : Stand) → p ≡ stand_at start → gone_from p false ds ≡ gone_of start ds
unfolding gone_of
from_first start ds p e = rw e

module _ (first : Stand) (ds : List ℤ) (p : Stand) (met : Bool) (k : ℕ) (a : Along first ds p met k) (h : k < length ds / 2) (dd : Pair) (at : dd ≡ pair_at ds k) (g : Gone) (is : g ≡ gone_by p met dd) where
  unrolled : gone_from p met (drop (2 * k) ds) ≡ onward g (λ q m. gone_from q m (drop (2 * (k + 1)) ds))
  unfolding gone_from
  unrolled = rw (pair_drop ds k (omega arith), is, at)

  pub along_more : (q : Stand) (m : Bool) → g ≡ On q m → Along first ds q m (k + 1)
  along_more q m e =
      let w = gone_went p met dd q m (sym is ∙ e) in
      record {
        turns = omega arith;
        placed = rw w.is (record { delta = w.delta; point = w.point });
        left = sym (unrolled ∙ rw e) ∙ a.left;
      }

  pub along_stop : (c : Code) (r : Gone) → g ≡ Stop c → r ≡ Stop c → r ≡ gone_from first false ds
  along_stop c r e f = f ∙ sym (unrolled ∙ rw e) ∙ a.left

gone_end : (p : Stand) (met : Bool) (ds : List ℤ) → length ds < 2 → gone_from p met ds ≡ On p met
unfolding gone_from
gone_end p met [] h = refl
gone_end p met (a ∷ []) h = refl
gone_end p met (a ∷ b ∷ ds) h = absurd (omega arith)

pub along_end : (first : Stand) (ds : List ℤ) (p : Stand) (met : Bool) (k : ℕ) → Along first ds p met k → length ds / 2 ≤ k → On p met ≡ gone_from first false ds
along_end first ds p met k a h = sym (gone_end p met (drop (2 * k) ds) (omega (arith, length-drop (2 * k) ds))) ∙ a.left

-- ---- along again

gone_passes : (ds : List ℤ) (p : Stand) (met : Bool) (q : Stand) (m : Bool) → gone_from p met ds ≡ On q m → passes p ds ≡ true
unfolding gone_from passes
gone_passes [] p met q m e = refl
gone_passes (a ∷ []) p met q m e = refl
gone_passes (a ∷ b ∷ ds) p met q m e = go (gone_by p met (record { x = a; y = b })) refl e (λ r n f. gone_passes ds r n q m f)
  where
    go : (g : Gone) → gone_by p met (record { x = a; y = b }) ≡ g → onward g (λ r n. gone_from r n ds) ≡ On q m
        → ((r : Stand) (n : Bool) → gone_from r n ds ≡ On q m → passes r ds ≡ true)
        → cond (valid_double_delta (record { x = a; y = b })) (cond (valid_point_pos (moved_of p (record { x = a; y = b })).delta) (cond (valid_point_pos (moved_of p (record { x = a; y = b })).point)
        (passes (moved_of p (record { x = a; y = b })) ds) false) false) false ≡ true
    go (On r n) x f rest =
        let w = gone_went p met (record { x = a; y = b }) r n x in
        rw (w.small, w.delta, w.point) (rw w.is at (rest r n f))
    go (Stop c) x f rest = cc

pub passable : (start : Pair) (ds : List ℤ) (q : Stand) (m : Bool) → valid_point_pos start ≡ true → gone_of start ds ≡ On q m → Passable (stand_at start) ds
unfolding gone_of stand_at valid_point_pos
passable start ds q m h e = record { delta = refl; point = h; rest = gone_passes ds (stand_at start) false q m e }

-- Assumes nothing.
