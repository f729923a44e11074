-- `read_splines::read_spline` meets its contract: at each return the tests that led there, or what the calls ensure, take the definition to the same place.
use mathlib.Core.Path.{refl}
use Prim.Native.Nat.{◌-◌, ◌*◌}
use native.Mathlib.Omega.{arith}
use lib.ListN.{length, get_or, take, drop}
use Rattle.std.specs.Prelude.{Err}
use Rattle.codes.specs.declared.Code.{Code}
use Rattle.codes.proofs.Refusals.{passed_on}
use Rattle.list.proofs.Buffers.{part_tail}
use Rattle.read_splines.proofs.Splines.{spline_stop, spline_short, spline_over, spline_room, spline_deltas_stop, spline_after, spline_coefficients_stop, spline_done}
use Rattle.read_splines.proofs.read_spline.Goals as goal

pub returns-in_default : goal.returns-in_default
returns-in_default c =
    let a = c.args in
    spline_stop _ Code.Short a.total _ _ _ _ (spline_short a.total a.left (length a.deltas.now) a.list.now c.in_default.len_below)

pub returns-then-left-n : goal.returns-then-left-n
returns-then-left-n c =
    let a = c.args in
    spline_stop _ Code.Points (a.total - length a.list.now) _ _ _ _ (spline_over a.total a.left (length a.deltas.now) a.list.now c.in-len1-up.len_at_least (omega arith))

pub returns-then-deltas-cells : goal.returns-then-deltas-cells
returns-then-deltas-cells c =
    let a = c.args in
    spline_stop _ Code.Room (a.total - length a.list.now) _ _ _ _ (spline_room a.total a.left (length a.deltas.now) a.list.now c.in-len1-up.len_at_least (omega arith) (omega arith))

pub slice_bounds-read_coefficients-count : goal.slice_bounds-read_coefficients-count
slice_bounds-read_coefficients-count c =
    let a = c.args in
    let n = get_or a.list.now 0 0 in
    let after = take (length a.list.now - 1) (drop 1 a.list.now) in
    spline_after a.total a.left (length a.deltas.now) a.list.now after n c.in-len1-up.len_at_least refl (omega arith) (omega arith) (part_tail 1 a.list.now) a.deltas.now c.read_deltas.new.out c.in_ok-read_deltas.ensures

pub slice_bounds-read_coefficients-start : goal.slice_bounds-read_coefficients-start
slice_bounds-read_coefficients-start c =
    let a = c.args in
    let n = get_or a.list.now 0 0 in
    let after = take (length a.list.now - 1) (drop 1 a.list.now) in
    omega (arith, spline_after a.total a.left (length a.deltas.now) a.list.now after n c.in-len1-up.len_at_least refl (omega arith) (omega arith) (part_tail 1 a.list.now) a.deltas.now c.read_deltas.new.out c.in_ok-read_deltas.ensures)

pub returns-in_err-read_deltas : goal.returns-in_err-read_deltas
returns-in_err-read_deltas c =
    let a = c.args in
    let n = get_or a.list.now 0 0 in
    let after = take (length a.list.now - 1) (drop 1 a.list.now) in
    let e = c.in_err-read_deltas.field-0.0 in
    rw (passed_on c.from_residual.result e (Err e) c.from_residual.ensures.1 refl)
    (spline_stop _ e.0 e.1 _ _ _ _ (spline_deltas_stop a.total a.left (length a.deltas.now) a.list.now after n c.in-len1-up.len_at_least refl (omega arith) (omega arith) (part_tail 1 a.list.now) a.deltas.now c.read_deltas.new.out e.0 e.1 c.in_err-read_deltas.ensures))

pub returns-in_err-read_coefficients : goal.returns-in_err-read_coefficients
returns-in_err-read_coefficients c =
    let a = c.args in
    let n = get_or a.list.now 0 0 in
    let after = take (length a.list.now - 1) (drop 1 a.list.now) in
    let e = c.in_err-read_coefficients.field-0.0 in
    rw (passed_on c.from_residual-in_err-read_coefficients.result e (Err e) c.from_residual-in_err-read_coefficients.ensures.1 refl)
    (spline_stop _ e.0 e.1 _ _ _ _
    (spline_coefficients_stop a.total a.left (length a.deltas.now) a.list.now after n c.in-len1-up.len_at_least refl (omega arith) (omega arith) (part_tail 1 a.list.now) a.deltas.now c.read_deltas.new.out c.in_ok-read_deltas.ensures (take (length after - 2 * n) (drop (2 * n) after)) (part_tail (2 * n) after) a.coefficients.now c.read_coefficients.new.out e.0 e.1 c.in_err-read_coefficients.ensures))

pub returns : goal.returns
returns c =
    let a = c.args in
    let n = get_or a.list.now 0 0 in
    let after = take (length a.list.now - 1) (drop 1 a.list.now) in
    spline_done a.total a.left (length a.deltas.now) a.list.now after n c.in-len1-up.len_at_least refl (omega arith) (omega arith) (part_tail 1 a.list.now) a.deltas.now c.read_deltas.new.out c.in_ok-read_deltas.ensures (take (length after - 2 * n) (drop (2 * n) after)) (part_tail (2 * n) after) a.coefficients.now c.read_coefficients.new.out c.in_ok-read_coefficients.ensures
