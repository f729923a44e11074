-- `judge_values` meets its contract: the starts, then the double deltas.
use mathlib.Core.Path.{sym, ◌∙◌}
use Rattle.codes.proofs.Refusals.{passed_on}
use Rattle.trace_fit.proofs.Fits.{values_start, values_rest}
use Rattle.trace_fit.proofs.judge_values.Goals as goal

pub returns-in_err-judge_starts : goal.returns-in_err-judge_starts
returns-in_err-judge_starts c =
    let a = c.args in
    let r = c.in_err-judge_starts.field-0.0 in
    passed_on _ _ _ c.from_residual.ensures.1
    (sym (values_start a.h a.s a.starts.now a.deltas.now r.0 r.1 (sym c.judge_starts.ensures ∙ c.in_err-judge_starts.was)))

pub returns : goal.returns
returns c =
    let a = c.args in
    c.judge_deltas.ensures
    ∙ values_rest a.h a.s a.starts.now a.deltas.now (sym c.judge_starts.ensures ∙ c.in_ok-judge_starts.was)
