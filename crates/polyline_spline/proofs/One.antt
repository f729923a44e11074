-- Laws of writing one spline: where it begins, and its verdict with what is left.
use mathlib.Core.Path.{◌≡◌, refl, ap}
use mathlib.Core.Bool.{true, false}
use mathlib.Core.List.{List}
use Prim.Native.Nat.{ℕ}
use lib.IntN.{ℤ}
use lib.Ieee.{Float}
use Rattle.codes.specs.declared.Code.{Code}
use Rattle.write_judge.specs.Verdict.{Fine}
use Rattle.control_points.specs.ControlPoints.{starting_point, stand_at, valid_point_pos}
use Rattle.control_points.specs.Asked.{Passable}
use Rattle.control_points.specs.declared.Pair.{Pair}
use Rattle.control_points.specs.Answers.{Start}
use Rattle.control_points.specs.Answers as S
use Rattle.control_points.proofs.Starts.{start_valid}
use Rattle.polyline.specs.Gone.{Gone, On, Stop}
use Rattle.polyline.specs.Write.{gone_of, begun}
use Rattle.polyline_spline.specs.Begun.{Begun}
use Rattle.polyline_spline.specs.Begun as begun'
use Rattle.std.specs.Prelude.{Result, Ok, Err}
use Rattle.std.specs.Result.{MatchResult, is_ok}
use Rattle.codes.specs.Refusal.{Refusal}
use Rattle.polyline_spline.specs.Steps.{settled_at, begun_at}
use Rattle.polyline_spline.proofs.Goes.{passable}

pub start_kept : (r : Begun) (p : Pair) (P : Code → Type 0) → MatchResult r (λ x. ◌≡◌ {A = Result Pair Refusal} (Ok p) (Ok x)) P → true ≡ is_ok r → r ≡ begun'.At p
start_kept (Ok x) p P m v = cc
start_kept (Err e) p P m v = cc

pub record Begins (k : ℕ) (ds : List ℤ) (s : Start) (p : Pair) : Type 0 where
  pub at : s ≡ S.At p
  pub fine : begun k ds s ≡ Fine
  pub pass : valid_point_pos p ≡ true → Passable (stand_at p) ds

pub begun_fine : (k : ℕ) (ds : List ℤ) (s : Start) (p : Pair) → begun'.At p ≡ begun_at ds s → Begins k ds s p
begun_fine k ds S.Out p e = cc
begun_fine k ds (S.At q) p e = go (gone_of q ds) refl e
  where
    go : (g : Gone) → gone_of q ds ≡ g → begun'.At p ≡ settled_at q g → Begins k ds (S.At q) p
    go (On r true) x e = cc
    go (On r false) x e =
        let same : q ≡ p = cc in
        record { at = ap S.At same; fine = rw x; pass = rw (← same) (λ h. passable q ds r false h x) }
    go (Stop c) x e = cc

module _ (k : ℕ) (ds : List ℤ) (x y : Float) (l l' : List ℕ) where
  module _ (p : Pair) (e : begun'.At p ≡ begun_at ds (starting_point x y)) where
    pub one_passes : Passable (stand_at p) ds
    one_passes = let b = begun_fine k ds (starting_point x y) p e in b.pass (start_valid x y p b.at)

-- Assumes nothing.
