-- `judge` meets its contract: the shape, then the header, then the values.
use mathlib.Core.Path.{sym, ◌∙◌}
use native.Mathlib.Omega.{arith}
use Rattle.codes.proofs.Refusals.{passed_on}
use Rattle.trace_fit.proofs.Fits.{judge_shape, judge_head, judge_rest, few}
use Rattle.trace_fit.proofs.judge.Goals as goal

pub returns-then-not-is_shaped : goal.returns-then-not-is_shaped
returns-then-not-is_shaped c =
    let d = c.args.description.now in
    judge_shape c.args.h d.counts.now d.starts.now d.deltas.now d.coefficients.now (sym c.is_shaped.ensures ∙ c.if-not-is_shaped.true)

pub judge_values-requires : goal.judge_values-requires
judge_values-requires c =
    let d = c.args.description.now in
    let k = few c.args.h d.counts.now d.starts.now d.deltas.now d.coefficients.now (sym c.is_shaped.ensures ∙ c.if-not-is_shaped.false) (sym c.judge_header.ensures ∙ c.in_ok-judge_header.was) in
    (omega arith, k.0, k.1, k.2)

pub returns-in_err-judge_header : goal.returns-in_err-judge_header
returns-in_err-judge_header c =
    let d = c.args.description.now in
    let r = c.in_err-judge_header.field-0.0 in
    passed_on _ _ _ c.from_residual.ensures.1
    (sym (judge_head c.args.h d.counts.now d.starts.now d.deltas.now d.coefficients.now (sym c.is_shaped.ensures ∙ c.if-not-is_shaped.false) r.0 r.1 (sym c.judge_header.ensures ∙ c.in_err-judge_header.was)))

pub returns : goal.returns
returns c =
    let d = c.args.description.now in
    c.judge_values.ensures ∙ judge_rest c.args.h d.counts.now d.starts.now d.deltas.now d.coefficients.now (sym c.is_shaped.ensures ∙ c.if-not-is_shaped.false) (sym c.judge_header.ensures ∙ c.in_ok-judge_header.was)
