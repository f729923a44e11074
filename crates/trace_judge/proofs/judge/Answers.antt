-- `judge` meets its contract: the version, then the offsets, then the rest.
use mathlib.Core.Path.{sym, ◌∙◌}
use lib.ListN.{length}
use Rattle.codes.proofs.Refusals.{passed_on}
use Rattle.little.specs.Little.{numbers_in}
use Rattle.trace_judge.proofs.Faults.{judge_short, judge_version, judge_offset, judge_body}
use Rattle.trace_judge.proofs.judge.Goals as goal

pub returns-then-bytes-lt32 : goal.returns-then-bytes-lt32
returns-then-bytes-lt32 c =
    let a = c.args in
    judge_short (length a.bytes.now) (numbers_in a.bytes.now) c.if-bytes-lt32.true

pub returns-then-wrong : goal.returns-then-wrong
returns-then-wrong c =
    let a = c.args in
    judge_version (length a.bytes.now) (numbers_in a.bytes.now) c.if-bytes-lt32.false (sym c.wrong.ensures ∙ c.if-wrong.true)

pub returns-in_err-judge_offsets : goal.returns-in_err-judge_offsets
returns-in_err-judge_offsets c =
    let a = c.args in
    let r = c.in_err-judge_offsets.field-0.0 in
    passed_on _ _ _ c.from_residual.ensures.1
    (sym (judge_offset (length a.bytes.now) (numbers_in a.bytes.now) c.if-bytes-lt32.false (sym c.wrong.ensures ∙ c.if-wrong.false) r.0 r.1 (sym c.judge_offsets.ensures ∙ c.in_err-judge_offsets.was)))

pub returns : goal.returns
returns c =
    let a = c.args in
    c.judge_body.ensures
    ∙ judge_body (length a.bytes.now) (numbers_in a.bytes.now) c.if-bytes-lt32.false (sym c.wrong.ensures ∙ c.if-wrong.false) (sym c.judge_offsets.ensures ∙ c.in_ok-judge_offsets.was)
