use mathlib.Core.Path.{refl}
use mathlib.Core.Path.{◌≡◌}
use Prim.Native.Nat.{◌+◌, ◌*◌}
use native.Mathlib.Omega.{arith}
use Rattle.std.specs.Prelude.{Err}
use Rattle.codes.proofs.Refusals.{passed_on}
use Rattle.read_splines.proofs.Splines.{going_start, going_stop, going_done, going_long, going_left, going_turn}
use Rattle.read_splines.proofs.read_splines.Goals as goal

pub loop-i-init : goal.loop-i-init
loop-i-init c =
    let a = c.args in
    going_start a.list.now a.total a.limit a.s a.counts.now a.deltas.now a.coefficients.now (omega arith)

pub returns-in_err-n : goal.returns-in_err-n
returns-in_err-n c =
    let a = c.args in
    let v = c.loop-i in
    let one = c.read_spline in
    let e = c.in_err-n.field-0.0 in
    rw (passed_on c.from_residual.result e (Err e) c.from_residual.ensures.1 refl)
    (going_stop a.list.now a.total a.limit a.s a.counts.now a.deltas.now a.coefficients.now
    v.counts v.deltas v.coefficients v.rest.now v.left v.i v.d (128 * v.i) v.invariant (omega arith) (omega arith) (omega arith) one.new.deltas one.new.coefficients e.0 e.1 c.in_err-n.ensures _ _ _)

pub slice_bounds-rest-count : goal.slice_bounds-rest-count
slice_bounds-rest-count c =
    let a = c.args in
    let v = c.loop-i in
    let one = c.read_spline in
    going_long a.list.now a.total a.limit a.s a.counts.now a.deltas.now a.coefficients.now
    v.counts v.deltas v.coefficients v.rest.now v.left v.i v.d (128 * v.i) v.invariant (omega arith) (omega arith) (omega arith) one.new.deltas one.new.coefficients c.in_ok-n.n c.in_ok-n.ensures

pub slice_bounds-rest-start : goal.slice_bounds-rest-start
slice_bounds-rest-start c =
    let a = c.args in
    let v = c.loop-i in
    let one = c.read_spline in
    omega (
      arith,
      going_long a.list.now a.total a.limit a.s a.counts.now a.deltas.now a.coefficients.now
          v.counts v.deltas v.coefficients v.rest.now v.left v.i v.d (128 * v.i) v.invariant (omega arith) (omega arith) (omega arith) one.new.deltas one.new.coefficients c.in_ok-n.n c.in_ok-n.ensures,
    )

pub overflow_sub-left : goal.overflow_sub-left
overflow_sub-left c =
    let a = c.args in
    let v = c.loop-i in
    let one = c.read_spline in
    going_left a.list.now a.total a.limit a.s a.counts.now a.deltas.now a.coefficients.now
    v.counts v.deltas v.coefficients v.rest.now v.left v.i v.d (128 * v.i) v.invariant (omega arith) (omega arith) (omega arith) one.new.deltas one.new.coefficients c.in_ok-n.n c.in_ok-n.ensures

pub loop-i-preserved : goal.loop-i-preserved
loop-i-preserved c =
    let a = c.args in
    let v = c.loop-i in
    let one = c.read_spline in
    let next : 128 * (v.i + 1) ≡ 128 * v.i + 128 = omega arith in
    rw next (going_turn a.list.now a.total a.limit a.s a.counts.now a.deltas.now a.coefficients.now
    v.counts v.deltas v.coefficients v.rest.now v.left v.i v.d (128 * v.i) v.invariant (omega arith) (omega arith) (omega arith) one.new.deltas one.new.coefficients c.in_ok-n.n c.in_ok-n.ensures)

pub returns : goal.returns
returns c =
    let a = c.args in
    let v = c.loop-i in
    going_done a.list.now a.total a.limit a.s a.counts.now a.deltas.now a.coefficients.now
    v.counts v.deltas v.coefficients v.rest.now v.left v.i v.d (128 * v.i) v.invariant (omega arith) (omega arith) (omega arith)
