-- `writer::write` meets its contract: the list is cleared, the description judged, and its values stored where nothing was found.
use mathlib.Core.Path.{refl, sym, ap, ◌∙◌}
use Rattle.std.specs.Prelude.{Err}
use native.Mathlib.Omega.{arith}
use lib.ListN.{length}
use mir.Syntax.{w32}
use mir.Facts.{to_z-of_z}
use Rattle.writer.specs.Write.{leaves}
use Rattle.writer.specs.WriteAnswer.{WriteAnswer}
use Rattle.codes.proofs.Refusals.{passed_on}
use Rattle.writer.proofs.Answers.{writable, size_fits, answer_fault, answer_room, answer_done}
use Rattle.writer.proofs.write.Goals as goal

pub overflow_mul-values : goal.overflow_mul-values
overflow_mul-values c =
    let a = c.args in
    let d = a.description.now in
    let l = c.limit in
    let e = sym c.judge.ensures ∙ c.in_ok-judge.was in
    omega (arith, size_fits d.counts.now d.starts.now d.deltas.now d.coefficients.now l.result e l.type_inv, c.well_formed.1.1.0.1)

pub overflow_add-values : goal.overflow_add-values
overflow_add-values c =
    let a = c.args in
    let d = a.description.now in
    let l = c.limit in
    let e = sym c.judge.ensures ∙ c.in_ok-judge.was in
    omega (arith, size_fits d.counts.now d.starts.now d.deltas.now d.coefficients.now l.result e l.type_inv, c.well_formed.1.1.0.1)

pub overflow_add-values-2 : goal.overflow_add-values-2
overflow_add-values-2 c =
    let a = c.args in
    let d = a.description.now in
    let l = c.limit in
    let e = sym c.judge.ensures ∙ c.in_ok-judge.was in
    omega (arith, size_fits d.counts.now d.starts.now d.deltas.now d.coefficients.now l.result e l.type_inv, c.well_formed.1.1.0.1)

pub returns-then-room-values : goal.returns-then-room-values
returns-then-room-values c =
    let a = c.args in
    let d = a.description.now in
    let l = c.limit in
    let e = sym c.judge.ensures ∙ c.in_ok-judge.was in
    answer_room d.counts.now d.starts.now d.deltas.now d.coefficients.now a.adjustment a.configured a.pixels (length a.list.now) l.result l.ensures e
    c.clear.new.cells c.clear.ensures c.if-room-values.true

pub put_list-requires : goal.put_list-requires
put_list-requires c =
    let a = c.args in
    let d = a.description.now in
    let l = c.limit in
    let e = sym c.judge.ensures ∙ c.in_ok-judge.was in
    writable d.counts.now d.starts.now d.deltas.now d.coefficients.now l.result _ e l.type_inv c.if-room-values.false

pub returns-in_err-judge : goal.returns-in_err-judge
returns-in_err-judge c =
    let a = c.args in
    let d = a.description.now in
    let l = c.limit in
    let r = c.in_err-judge.field-0.0 in
    ap (λ (o : WriteAnswer). leaves o c.clear.new.cells) (passed_on _ _ (Err r) c.from_residual.ensures.1 refl)
    ∙ answer_fault d.counts.now d.starts.now d.deltas.now d.coefficients.now a.adjustment a.configured a.pixels (length a.list.now) l.result l.ensures r.0 r.1
    c.clear.new.cells c.clear.ensures (sym c.judge.ensures ∙ c.in_err-judge.was)

pub returns : goal.returns
returns c =
    let a = c.args in
    let d = a.description.now in
    let l = c.limit in
    let e = sym c.judge.ensures ∙ c.in_ok-judge.was in
    let z = to_z-of_z {w = w32} {z = a.adjustment} c.ranges.adjustment in
    answer_done d.counts.now d.starts.now d.deltas.now d.coefficients.now a.adjustment a.configured a.pixels (length a.list.now) l.result l.ensures e
    c.clear.new.cells c.put_list.new.list c.clear.ensures c.if-room-values.false (rw z at c.put_list.ensures)
