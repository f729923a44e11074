-- A refusal and a hidden record leave the channels; any other is drawn.
use mathlib.Core.Path.{sym, ◌∙◌}
use native.Mathlib.Omega.{arith}
use Rattle.draw.specs.Draw.{three}
use Rattle.records.proofs.Alone.{judged_for, for_fault, for_hidden, for_drawn}
use Rattle.records.proofs.draw_for_desk.Goals as goal

pub returns-in-Err : goal.returns-in-Err
returns-in-Err c =
    let A = c.args in
    for_fault A.known A.whole A.splines A.bits.now A.desk A.y A.x0 A.n (three A.r0.now A.r1.now A.r2.now) c.span_good-spanned.ensures (sym c.judge_for.ensures ∙ c.in-Err.is)

pub hidden-requires : goal.hidden-requires
hidden-requires c =
    let f = judged_for _ _ _ _ (sym c.judge_for.ensures ∙ c.in_default.is) in
    record { owner = omega arith; byte = omega arith; desk = f.desk }

pub returns-then-hidden : goal.returns-then-hidden
returns-then-hidden c =
    let A = c.args in
    for_hidden A.known A.whole A.splines A.bits.now A.desk A.y A.x0 A.n (three A.r0.now A.r1.now A.r2.now) c.span_good-spanned.ensures (sym c.judge_for.ensures ∙ c.in_default.is) (sym c.hidden.ensures ∙ c.if-hidden.true)

pub returns : goal.returns
returns c =
    let A = c.args in
    for_drawn A.known A.whole A.splines A.bits.now A.desk A.y A.x0 A.n (three A.r0.now A.r1.now A.r2.now) c.span_good-spanned.ensures (sym c.judge_for.ensures ∙ c.in_default.is) (sym c.hidden.ensures ∙ c.if-hidden.false) c.draw_alone.ensures
