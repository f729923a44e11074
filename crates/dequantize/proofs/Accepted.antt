-- A spline is accepted exactly when its start is a place and its trace ends well; its control points may then be gone through again.
use Rattle.std.proofs.Common.{◌≡◌, Result, Ok, Err, ℕ, ◌↔◌, List, ℤ, sym, refl, ◌∙◌, arith}
use lib.Ieee.{Float}
use Rattle.codes.specs.declared.Code.{Code}
use Rattle.codes.specs.declared.Code.TheVariants.{Position}
use Rattle.control_points.specs.ControlPoints.{starting_point, trace_of}
use Rattle.dequantize.specs.Asked.{SplineAccepted}
use Rattle.dequantize.specs.Dequantize.{finished_of, dequantize_of, spline_in}
use Rattle.dequantize.specs.declared.Given.{Given}
use Rattle.dequantize.specs.declared.Spline.{Spline}
use Rattle.control_points.specs.declared.Pair.{Pair}
use Rattle.control_points.specs.declared.Run.{Run}
use Rattle.control_points.specs.Answers.{Start, At, Out, Traced, On, Stop}
use Rattle.control_points.proofs.Starts.{start_valid}
use Rattle.control_points.proofs.Coincide.{coincides}
use Rattle.control_points.proofs.Walks.{traced_walk}

module _ (x y : Float) (ds c : List ℤ) (g : Given) where
  -- ---- the three cases

  pub start_refused : starting_point x y ≡ Out → dequantize_of x y ds c g ≡ Err Position
  unfolding dequantize_of
  start_refused e = rw e

  module _ (start : Pair) (e : starting_point x y ≡ At start) where
    pub trace_refused : (code : Code) → trace_of g.limit start ds ≡ Stop code → dequantize_of x y ds c g ≡ Err code
    unfolding dequantize_of
    trace_refused code t = rw (e, t)

    pub trace_accepted : (run : Run) → trace_of g.limit start ds ≡ On run → SplineAccepted x y ds c g
    unfolding dequantize_of finished_of
    trace_accepted run t = record {
      start = start;
      run = run;
      begins = e;
      traced = t;
      is = rw (e, t);
      walk = traced_walk g.limit start ds run (start_valid x y start e) t;
      coincide = rw (e, t) (coincides g.limit start ds run t);
    }

  -- ---- by the answer

  by_trace : (start : Pair) → starting_point x y ≡ At start → (t : Traced) → trace_of g.limit start ds ≡ t → (s : Spline) → dequantize_of x y ds c g ≡ Ok s → SplineAccepted x y ds c g
  by_trace start e (On run) t s h = trace_accepted start e run t
  by_trace start e (Stop code) t s h = absurd (let z : ◌≡◌ {A = ℕ} 0 1 = cc (trace_refused start e code t, h) in omega arith)

  by_start : (b : Start) → starting_point x y ≡ b → (s : Spline) → dequantize_of x y ds c g ≡ Ok s → SplineAccepted x y ds c g
  by_start (At start) e s h = by_trace start e (trace_of g.limit start ds) refl s h
  by_start Out e s h = absurd (let z : ◌≡◌ {A = ℕ} 0 1 = cc (start_refused e, h) in omega arith)

  pub accepted_exactly : (dequantize_of x y ds c g ≡ Ok (spline_in (dequantize_of x y ds c g))) ↔ SplineAccepted x y ds c g
  accepted_exactly = (by_start (starting_point x y) refl _, λ a. rw a.is)

  -- ---- any two outcomes of the contract are equal

  pub dequantize_one_outcome : (r s : Result Spline Code) → r ≡ dequantize_of x y ds c g → s ≡ dequantize_of x y ds c g → r ≡ s
  dequantize_one_outcome r s p q = p ∙ sym q

-- Assumes nothing.
