-- `judge_parts` meets its contract: the sum, then the starts, then the double deltas, each over a slice of the bytes.
use mathlib.Core.Path.{sym, ◌∙◌}
use Prim.Native.Nat.{◌+◌, ◌-◌, ◌*◌}
use native.Mathlib.Omega.{arith}
use Rattle.std.proofs.Common.{rules}
use Rattle.codes.proofs.Refusals.{passed_on}
use Rattle.little.specs.Little.{numbers_in}
use Rattle.trace.specs.Read.{misplaced, too_wild}
use Rattle.trace.proofs.Checks.{numbers_part}
use Rattle.trace_parts.proofs.Parts.{parts_shape, parts_start, parts_rest}
use Rattle.trace_parts.proofs.judge_parts.Goals as goal

pub returns-then-not-sum_is : goal.returns-then-not-sum_is
returns-then-not-sum_is c =
    let a = c.args in
    let counts = numbers_part a.h a.s (4 * (a.h + a.s) - 4 * a.h) a.bytes.now (omega arith) in
    parts_shape a.h a.s a.p (numbers_in a.bytes.now) (rw counts at (sym c.sum_is.ensures ∙ c.if-not-sum_is.true))

pub returns-in_err-judge_numbers : goal.returns-in_err-judge_numbers
returns-in_err-judge_numbers c =
    let a = c.args in
    let counts = numbers_part a.h a.s (4 * (a.h + a.s) - 4 * a.h) a.bytes.now (omega arith) in
    let starts = numbers_part (a.h + a.s) (2 * a.s) (4 * (a.h + 3 * a.s) - 4 * (a.h + a.s)) a.bytes.now (omega arith) in
    let e = rw starts at (sym (c.judge_numbers.ensures misplaced (λ u r p. search rules)) ∙ c.in_err-judge_numbers.was) in
    let r = c.in_err-judge_numbers.field-0.0 in
    passed_on _ _ _ c.from_residual.ensures.1 (sym (parts_start a.h a.s a.p (numbers_in a.bytes.now) (rw counts at (sym c.sum_is.ensures ∙ c.if-not-sum_is.false)) r.0 r.1 e))

pub returns : goal.returns
returns c =
    let a = c.args in
    let counts = numbers_part a.h a.s (4 * (a.h + a.s) - 4 * a.h) a.bytes.now (omega arith) in
    let starts = numbers_part (a.h + a.s) (2 * a.s) (4 * (a.h + 3 * a.s) - 4 * (a.h + a.s)) a.bytes.now (omega arith) in
    let deltas = numbers_part (a.h + 3 * a.s) (2 * a.p) (4 * (a.h + (3 * a.s + 2 * a.p)) - 4 * (a.h + 3 * a.s)) a.bytes.now (omega arith) in
    let e = rw starts at (sym (c.judge_numbers.ensures misplaced (λ u r p. search rules)) ∙ c.in_ok-judge_numbers.was) in
    rw deltas at (c.judge_numbers-2.ensures too_wild (λ u r p. search rules))
    ∙ parts_rest a.h a.s a.p (numbers_in a.bytes.now) (rw counts at (sym c.sum_is.ensures ∙ c.if-not-sum_is.false)) e
