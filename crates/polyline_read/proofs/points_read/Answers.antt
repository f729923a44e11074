-- `polyline_read::points_read` meets its contract: the buffers are zero before the text is read, and the double deltas again after a refusal.
use mathlib.Core.Path.{sym}
use lib.ListN.{length}
use Rattle.list.proofs.Buffers.{zeros_f32}
use Rattle.polyline_read.proofs.Answers.{call-done, call-refused}
use Rattle.polyline_read.proofs.points_read.Goals as goal

pub returns-else-is_err : goal.returns-else-is_err
returns-else-is_err c =
    let t = c.read_text-answer in
    call-done c.args.text.now (length c.args.start.now) (length c.args.deltas.now) _ _ _ _ (zeros_f32 (length c.args.start.now) c.clear.ensures) c.clear-2.ensures _ t.ensures (sym c.if-is_err.ensures.value)

pub returns-then-is_err : goal.returns-then-is_err
returns-then-is_err c =
    let t = c.read_text-answer in
    call-refused c.args.text.now (length c.args.start.now) (length c.args.deltas.now) _ _ _ _ (zeros_f32 (length c.args.start.now) c.clear.ensures) c.clear-2.ensures _ t.ensures _ (sym c.if-is_err.ensures.value) c.clear-then-is_err.ensures t.auto.deltas
