-- `judge_second` meets its contract: the header is there, then its numbers, then the rest.
use mathlib.Core.Path.{sym, ◌∙◌}
use native.Mathlib.Omega.{arith}
use lib.ListN.{length, get_or}
use Rattle.codes.proofs.Refusals.{passed_on}
use Rattle.little.specs.Little.{numbers_in}
use Rattle.trace2_judge.proofs.Laid.{laid_short, laid_header, laid_body}
use borrow.Author.Rules.{rules}
use Rattle.trace2_judge.proofs.judge_second.Goals as goal

pub returns-then-bytes-lt36 : goal.returns-then-bytes-lt36
returns-then-bytes-lt36 c =
    let a = c.args in
    laid_short (get_or (numbers_in a.bytes.now) 8 0) (length a.bytes.now) (numbers_in a.bytes.now) (omega (arith, c.if-bytes-lt36.true))

pub judge_header-requires : goal.judge_header-requires
judge_header-requires c = (search rules, omega (arith, c.if-bytes-lt36.false))

pub returns-in_err-judge_header : goal.returns-in_err-judge_header
returns-in_err-judge_header c =
    let a = c.args in
    let r = c.in_err-judge_header.field-0.0 in
    passed_on _ _ _ c.from_residual.ensures.1
    (sym (laid_header (get_or (numbers_in a.bytes.now) 8 0) (length a.bytes.now) (numbers_in a.bytes.now) c.if-bytes-lt36.false r.0 r.1 (sym c.judge_header.ensures ∙ c.in_err-judge_header.was)))

pub returns : goal.returns
returns c =
    let a = c.args in
    c.judge_body.ensures ∙ laid_body (get_or (numbers_in a.bytes.now) 8 0) (length a.bytes.now) (numbers_in a.bytes.now) c.if-bytes-lt36.false (sym c.judge_header.ensures ∙ c.in_ok-judge_header.was)
