-- What each comparison has found, in the terms of the definitions.
use mathlib.Core.Path.{◌≡◌, refl, sym, subst, ap, ◌∙◌}
use mathlib.Core.Bool.{Bool, true, false, not, beq}
use mathlib.Core.Logic.{⊎_elim}
use mathlib.Core.List.{List}
use Prim.Native.Nat.{ℕ, ◌+◌, ◌-◌, ◌*◌, ◌/◌, ◌<◌, ◌≤◌}
use native.Mathlib.Nat.{eq-or-lt_of_le}
use native.Mathlib.Omega.{arith}
use lib.IntN.{ℤ}
use lib.ListN.{length, get_or, take, replicate}
use lib.Seq.{length-take-le}
use lib.Ieee.{Float}
use Rattle.std.specs.Prelude.{Result}
use Rattle.dequantize.specs.declared.Given.{Given}
use Rattle.dequantize.specs.declared.Spline.{Spline}
use Rattle.control_points.specs.declared.Pair.{Pair}
use Rattle.codes.specs.declared.Code.{Code}
use Rattle.control_points.specs.Answers.{Start, At}
use Rattle.dequantize.specs.Coefficients.{table}
use Rattle.control_points.specs.ControlPoints.{starting_point}
use Rattle.dequantize.specs.Dequantize.{dequantize_of}
use Rattle.dequantize.proofs.Tables.{length_table}
use Rattle.numbers.specs.Arith.{f}
use Rattle.curve.specs.Curved.{Curved, Points}
use Rattle.curve.specs.Curve.{path_of, curved_of, curved_on}
use Rattle.stored.proofs.Begun.{no_true}
use Rattle.stored.specs.Stored.{float_in, signed_in, long_in, Begins}
use Rattle.replay_splines.specs.Splines.{part, LeadsTo, PointsAgree, PointsFrom, RowsAgree, TakenAgrees, DequantizeAgrees, Sized, PathAgrees, given_in, deltas_in, coefficients_in}

pub same_bool : (a b : Bool) → not (beq a b) ≡ false → a ≡ b
same_bool true true e = refl
same_bool false false e = refl
same_bool true false e = absurd (no_true (sym e))
same_bool false true e = absurd (no_true (sym e))

-- 2k double deltas of at least so many
pub led_length : (ds : List ℤ) (k : ℕ) → k ≤ length ds / 2 → length (take (2 * k) ds) ≡ 2 * k
led_length ds k h = length-take-le (2 * k) ds (omega arith)

-- the first i control points are where the double deltas before them lead
pub record Led (limit : ℕ) (start : Pair) (ds : List ℤ) (words : List ℕ) (i : ℕ) : Type 0 where
  pub some : i ≤ length words / 2
  pub each : (k : ℕ) → k < i → LeadsTo limit start (take (2 * k) ds) (get_or words (2 * k) 0) (get_or words (2 * k + 1) 0)

module _ (limit : ℕ) (start : Pair) (ds : List ℤ) (words : List ℕ) where
  pub led_none : Led limit start ds words 0
  led_none = record { some = omega arith; each = λ k h. absurd (omega arith) }

  pub led_more : (i : ℕ) → Led limit start ds words i → i < length words / 2 → LeadsTo limit start (take (2 * i) ds) (get_or words (2 * i) 0) (get_or words (2 * i + 1) 0) → Led limit start ds words (i + 1)
  led_more i b h l = record {
    some = omega arith;
    each = λ k m. ⊎_elim (λ (p : k ≡ i). subst (λ (j : ℕ). LeadsTo limit start (take (2 * j) ds) (get_or words (2 * j) 0) (get_or words (2 * j + 1) 0)) (sym p) l) (λ n. b.each k n) (eq-or-lt_of_le {n = k} {m = i} (omega arith));
  }

  pub led_all : (i : ℕ) → Led limit start ds words i → length words / 2 ≤ i → PointsAgree limit start ds words
  led_all i b h = record { each = λ k m. b.each k (omega arith) }

  pub from_start : {s : Start} → s ≡ At start → PointsAgree limit start ds words → PointsFrom limit s ds words
  from_start p a = subst (λ (v : Start). PointsFrom limit v ds words) (sym p) a

-- the parts of an output with n control points
pub taken_agrees : (limit : ℕ) (start : Start) (ds : List ℤ) (s : Spline) (output : List ℕ) {n : ℕ} → n ≡ get_or output 1 0 → PointsFrom limit start ds (part 2 (2 + 2 * n) output) → RowsAgree s (part (2 + 2 * n) (length output) output) → TakenAgrees limit start ds s output
taken_agrees limit start ds s output p a b = record {
  points = subst (λ (k : ℕ). PointsFrom limit start ds (part 2 (2 + 2 * k) output)) p a;
  rows = subst (λ (k : ℕ). RowsAgree s (part (2 + 2 * k) (length output) output)) p b;
}

pub given_is : (input : List ℕ) {a : ℤ} {x b : Float} {l : ℕ} → a ≡ signed_in input 2 → x ≡ float_in input 3 → b ≡ float_in input 4 → l ≡ long_in input 0 → ◌≡◌ {A = Given} (record { adjustment = a; y_to_x = x; y_to_b = b; limit = l }) (given_in input)
given_is input p q r l = λ i. record { adjustment = p i; y_to_x = q i; y_to_b = r i; limit = l i }

-- the first n of N numbers are n
pub taken : {A : Type 0} (g : ℕ → A) (N n : ℕ) (p : List A) → p ≡ table g N → n ≤ N → length (take n p) ≡ n
taken g N n p e l =
    let k : length p ≡ N = ap length e ∙ length_table g N in
    length-take-le n p (omega arith)

module _ (input output : List ℕ) where
  -- double deltas and coefficients, dequantized with the other numbers of the case, agree with it
  abbrev Dequantized : Float → Float → Given → List ℤ → List ℤ → Type 0
  Dequantized x y g ds c = DequantizeAgrees g.limit (starting_point x y) ds (dequantize_of x y ds c g) output

  pub numbers_agree : (ds c : List ℤ) {x y : Float} {g : Given} {s : Result Spline Code} → x ≡ float_in input 5 → y ≡ float_in input 6 → g ≡ given_in input → s ≡ dequantize_of x y ds c g
      → DequantizeAgrees g.limit (starting_point x y) ds s output → Dequantized (float_in input 5) (float_in input 6) (given_in input) ds c
  numbers_agree ds c {x} {y} {g} {s} p q r t a =
      subst (λ (v : Float). Dequantized v (float_in input 6) (given_in input) ds c) p
      (subst (λ (v : Float). Dequantized x v (given_in input) ds c) q
      (subst (λ (v : Given). Dequantized x y v ds c) r
      (subst (λ (v : Result Spline Code). DequantizeAgrees g.limit (starting_point x y) ds v output) t a)))

  abbrev Cased : List ℤ → List ℤ → Type 0
  Cased ds c = Dequantized (float_in input 5) (float_in input 6) (given_in input) ds c

  pub case_agrees : {n : ℕ} {ds c : List ℤ} → n ≡ get_or input 7 0 → ds ≡ table (signed_in (part 8 (8 + 2 * n) input)) 64 → c ≡ table (signed_in (part (8 + 2 * n) (length input) input)) 128
      → Cased (take (2 * n) ds) c → Cased (deltas_in input) (coefficients_in input)
  case_agrees {n} {ds} {c} p q r a =
      subst (λ (k : ℕ). Cased (take (2 * k) (table (signed_in (part 8 (8 + 2 * k) input)) 64)) (table (signed_in (part (8 + 2 * k) (length input) input)) 128)) p
      (subst (λ (v : List ℤ). Cased (take (2 * n) v) (table (signed_in (part (8 + 2 * n) (length input) input)) 128)) q
      (subst (λ (v : List ℤ). Cased (take (2 * n) ds) v) r a))

-- ---- the curve

pub path_agrees : (start : Pair) (ds : List ℤ) (output : List ℕ) {a : Curved} {k : ℕ} {e : List Float} → a ≡ curved_of 128 (path_of start ds) → a ≡ Points k → e ≡ curved_on 128 (path_of start ds) (replicate 256 (f 0)) → k ≡ length output / 2 → Begins e output → PathAgrees start ds output
path_agrees start ds output p q on l b = record {
  count = ap Points (sym l) ∙ sym q ∙ p;
  path = subst (λ (v : List Float). Begins v output) on b;
}

-- the double deltas of n control points, among 64 cells
pub first_deltas : (n : ℕ) (ds : List ℤ) → Sized ds 64 → n ≤ 32 → length (take (2 * (n - 1)) ds) ≡ 2 * (n - 1)
first_deltas n ds e h = length-take-le (2 * (n - 1)) ds (omega (arith, e.size))

pub one_fewer : (n : ℕ) (ds : List ℤ) → Sized ds 64 → 1 ≤ n → n ≤ 32 → n ≡ length (take (2 * (n - 1)) ds) / 2 + 1
one_fewer n ds e l h = omega (arith, first_deltas n ds e h)

-- Assumes nothing.
