-- `polyline_write::points_write` meets its contract: the bytes are zero before the spline is written, and again after a refusal.
use mathlib.Core.Path.{sym, ◌∙◌}
use lib.ListN.{length}
use Rattle.polyline_write.proofs.Answers.{parted, call-shape, call-done, call-refused}
use mathlib.Core.Logic.{inl, inr}
use Rattle.polyline_write.proofs.points_write.Goals as goal
use Rattle.polyline_write.proofs.points_write.Goals.{then-not-is_shaped-via-then-not-is_shaped, then-not-is_shaped-via-else-not-is_shaped+then-description-spline}

pub returns-then-not-is_shaped : goal.returns-then-not-is_shaped
returns-then-not-is_shaped c = let D = c.args.description.now in
    call-shape D.counts.now D.starts.now D.deltas.now D.coefficients.now c.args.spline (length c.args.text.now) _ c.clear.ensures
    (elim c.then-not-is_shaped.branch [
      | then-not-is_shaped-via-then-not-is_shaped w ↦ inl (sym c.is_shaped.ensures ∙ w.if-not-is_shaped.true)
      | then-not-is_shaped-via-else-not-is_shaped+then-description-spline w ↦ inr (sym c.is_shaped.ensures ∙ w.if-not-is_shaped.false, w.if-description-spline.true)
    ])

pub write_spline-answer-requires : goal.write_spline-answer-requires
write_spline-answer-requires c = let D = c.args.description.now in parted D.counts.now D.starts.now D.deltas.now D.coefficients.now c.args.spline (length c.args.text.now) (sym c.if-not-is_shaped.ensures) c.if-description-spline.false

pub returns-then-is_err : goal.returns-then-is_err
returns-then-is_err c =
    let D = c.args.description.now in
    let w = c.write_spline-answer in
    call-refused D.counts.now D.starts.now D.deltas.now D.coefficients.now c.args.spline (length c.args.text.now) (sym c.if-not-is_shaped.ensures) c.if-description-spline.false _ _ c.clear.ensures _ w.ensures _ (sym c.if-is_err.ensures.value) c.clear-then-is_err.ensures w.auto.text

pub returns-else-is_err : goal.returns-else-is_err
returns-else-is_err c =
    let D = c.args.description.now in
    let w = c.write_spline-answer in
    call-done D.counts.now D.starts.now D.deltas.now D.coefficients.now c.args.spline (length c.args.text.now) (sym c.if-not-is_shaped.ensures) c.if-description-spline.false _ _ c.clear.ensures _ w.ensures (sym c.if-is_err.ensures.value)
