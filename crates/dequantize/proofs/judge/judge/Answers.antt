use Rattle.std.proofs.Common.{refl, arith, rules}
use Rattle.std.specs.Prelude.{Err}
use Rattle.codes.proofs.Refusals.{passed_on}
use Rattle.dequantize.proofs.Judging.{under_none, under_all, under_fits, under_err, under_ok}
use Rattle.dequantize.proofs.judge.judge.Goals as goal

pub loop-k-init : goal.loop-k-init
loop-k-init c =
    let s = c.requires in
    (omega arith, omega (arith, s.starts), omega (arith, s.coefficients), s, under_none _ _)

pub slice_bounds-deltas-end : goal.slice_bounds-deltas-end
slice_bounds-deltas-end c =
    let l = c.loop-k in
    under_fits _ _ l.k-counter l.at l.total l.invariant.4 (omega arith) refl l.invariant.3

pub returns-in_err-total : goal.returns-in_err-total
returns-in_err-total c =
    let l = c.loop-k in
    let e = c.in_err-total.field-0.0 in
    rw (passed_on c.from_residual.result e (Err e) c.from_residual.ensures.1 refl)
    (under_err _ _ l.k-counter l.at l.total l.invariant.4 (omega arith) refl c.spline_at-spline.ensures c.settle.ensures e (search rules))

pub loop-k-preserved : goal.loop-k-preserved
loop-k-preserved c =
    let l = c.loop-k in (
      under_fits _ _ l.k-counter l.at l.total l.invariant.4 (omega arith) refl l.invariant.3,
      l.invariant.1,
      l.invariant.2,
      l.invariant.3,
      under_ok _ _ l.k-counter l.at l.total l.invariant.4 (omega arith) refl c.spline_at-spline.ensures c.settle.ensures _ c.in_ok-total.ensures.cases c.in_ok-total.ensures.variant,
    )

pub returns : goal.returns
returns c = let l = c.loop-k in under_all _ _ l.k-counter l.at l.total l.invariant.4 (omega arith)
