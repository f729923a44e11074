use mathlib.Core.Path.{refl}
use Prim.Native.Nat.{◌*◌}
use native.Mathlib.Omega.{arith}
use lib.ListN.{get_or}
use Rattle.write_judge.proofs.Checks.{length_part}
use Rattle.write_steps.proofs.Stores.{rows_begin, rows_within, rows_more, rows_end}
use Rattle.write_steps.proofs.put_splines.Goals as goal

pub loop-n-init : goal.loop-n-init
loop-n-init c =
    let a = c.args.description.now in
    rows_begin a.counts.now a.deltas.now a.coefficients.now c.args.list.now c.args.at c.requires.0

pub overflow_cast-cells : goal.overflow_cast-cells
overflow_cast-cells c =
    let a = c.args.description.now in
    let v = c.loop-n in
    omega (arith, rows_within a.counts.now a.deltas.now a.coefficients.now c.args.list.now c.args.at v.list v.place v.from v.row v.n-index v.invariant (omega arith))

pub overflow_mul-cells : goal.overflow_mul-cells
overflow_mul-cells c =
    let a = c.args.description.now in
    let v = c.loop-n in
    omega (arith, rows_within a.counts.now a.deltas.now a.coefficients.now c.args.list.now c.args.at v.list v.place v.from v.row v.n-index v.invariant (omega arith))

pub overflow_add-to : goal.overflow_add-to
overflow_add-to c =
    let a = c.args.description.now in
    let v = c.loop-n in
    omega (arith, rows_within a.counts.now a.deltas.now a.coefficients.now c.args.list.now c.args.at v.list v.place v.from v.row v.n-index v.invariant (omega arith))

pub slice_bounds-put_spline-end : goal.slice_bounds-put_spline-end
slice_bounds-put_spline-end c =
    let a = c.args.description.now in
    let v = c.loop-n in
    rows_within a.counts.now a.deltas.now a.coefficients.now c.args.list.now c.args.at v.list v.place v.from v.row v.n-index v.invariant (omega arith)

pub put_spline-requires : goal.put_spline-requires
put_spline-requires c =
    let a = c.args.description.now in
    let v = c.loop-n in
    let w = rows_within a.counts.now a.deltas.now a.coefficients.now c.args.list.now c.args.at v.list v.place v.from v.row v.n-index v.invariant (omega arith) in
    omega (arith, length_part a.deltas.now v.from (2 * get_or a.counts.now v.n-index 0) w, length_part a.coefficients.now v.row 128 (omega arith))

pub overflow_add-place : goal.overflow_add-place
overflow_add-place c =
    let a = c.args.description.now in
    let v = c.loop-n in
    omega (arith, rows_within a.counts.now a.deltas.now a.coefficients.now c.args.list.now c.args.at v.list v.place v.from v.row v.n-index v.invariant (omega arith))

pub overflow_add-place-in-loop-n : goal.overflow_add-place-in-loop-n
overflow_add-place-in-loop-n c =
    let a = c.args.description.now in
    let v = c.loop-n in
    omega (arith, rows_within a.counts.now a.deltas.now a.coefficients.now c.args.list.now c.args.at v.list v.place v.from v.row v.n-index v.invariant (omega arith))

pub loop-n-preserved : goal.loop-n-preserved
loop-n-preserved c =
    let a = c.args.description.now in
    let v = c.loop-n in
    rows_more a.counts.now a.deltas.now a.coefficients.now c.args.list.now c.args.at v.list v.place v.from v.row v.n-index v.invariant (omega arith) _ _ c.put_spline.new.list refl refl (length_part a.coefficients.now v.row 128 (omega arith)) c.put_spline.ensures

pub returns : goal.returns
returns c =
    let a = c.args.description.now in
    let v = c.loop-n in
    rows_end a.counts.now a.deltas.now a.coefficients.now c.args.list.now c.args.at v.list v.place v.from v.row v.n-index v.invariant (omega arith)
