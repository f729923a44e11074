-- `judge_body` meets its contract: the length, then the parts.
use mathlib.Core.Path.{sym, ◌∙◌}
use lib.ListN.{length}
use Rattle.codes.proofs.Refusals.{passed_on}
use Rattle.little.specs.Little.{numbers_in}
use Rattle.trace_judge.proofs.Faults.{length_due, body_length, body_rest}
use Rattle.trace_judge.proofs.judge_body.Goals as goal

pub judge_parts-requires : goal.judge_parts-requires
judge_parts-requires c =
    length_due _ _ (sym c.judge_length.ensures ∙ c.in_ok-judge_length.was)

pub returns-in_err-judge_length : goal.returns-in_err-judge_length
returns-in_err-judge_length c =
    let a = c.args in
    let g = c.requires in
    let r = c.in_err-judge_length.field-0.0 in
    passed_on _ _ _ c.from_residual.ensures.1
    (sym (body_length a.h (length a.bytes.now) (numbers_in a.bytes.now) a.s a.p g.splines g.points r.0 r.1 (sym c.judge_length.ensures ∙ c.in_err-judge_length.was)))

pub returns : goal.returns
returns c =
    let a = c.args in
    let g = c.requires in
    c.judge_parts.ensures
    ∙ body_rest a.h (length a.bytes.now) (numbers_in a.bytes.now) a.s a.p g.splines g.points (sym c.judge_length.ensures ∙ c.in_ok-judge_length.was)
