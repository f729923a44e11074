use mathlib.Core.Path.{refl, sym, ◌∙◌}
use Rattle.std.proofs.Common.{arith, rules}
use Rattle.polyline.specs.Stages.{text_of}
use Rattle.polyline_form.proofs.Bytes.{turn_stray, turn_on, turn_fine, turn_early}
use Rattle.polyline_form.proofs.judge_form.Goals as goal

pub loop-i-init : goal.loop-i-init
unfolding text_of
loop-i-init c = refl

pub returns-in_err-stage : goal.returns-in_err-stage
returns-in_err-stage c =
    let v = c.loop-i in
    let e = c.in_err-stage.ensures in
    sym (turn_stray c.args.text.now v.stage v.i _ _ _ (omega arith) c.next_stage.ensures e.ok_part e.value (search rules)) ∙ v.invariant

pub loop-i-preserved : goal.loop-i-preserved
loop-i-preserved c =
    let v = c.loop-i in
    sym (turn_on c.args.text.now v.stage v.i _ _ (omega arith) c.next_stage.ensures c.in_ok-stage.ensures.ok_part) ∙ v.invariant

pub returns-then-may_end : goal.returns-then-may_end
returns-then-may_end c =
    let v = c.loop-i in
    sym (turn_fine c.args.text.now v.stage v.i _ (omega arith) c.may_end.ensures c.if-may_end.true) ∙ v.invariant

pub returns-else-may_end : goal.returns-else-may_end
returns-else-may_end c =
    let v = c.loop-i in
    sym (turn_early c.args.text.now v.stage v.i _ (omega arith) (omega arith) c.may_end.ensures c.if-may_end.false) ∙ v.invariant
