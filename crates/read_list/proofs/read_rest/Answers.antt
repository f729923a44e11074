-- `read_list::read_rest` meets its contract: no value, a stop below, values left over, or the end.
use mathlib.Core.Path.{refl, ◌∙◌}
use Prim.Native.Nat.{◌-◌}
use lib.ListN.{length, get_or, take, drop}
use mir.Syntax.{w32}
use mir.Facts.{to_z-of_z}
use Rattle.std.specs.Prelude.{Err}
use Rattle.codes.specs.declared.Code.{Code}
use Rattle.codes.proofs.Refusals.{passed_on}
use Rattle.list.proofs.Buffers.{part_tail}
use Rattle.read_list.proofs.Whole.{rest_stop, after_short, after_stop, after_trail, after_done}
use Rattle.read_list.proofs.read_rest.Goals as goal

pub returns-in_default : goal.returns-in_default
returns-in_default c =
    let a = c.args in
    rest_stop _ Code.Short a.total _ _ _ _ _ _ (after_short a.total a.limit (length a.deltas.now) a.s a.list.now c.in_default.len_below)

pub returns-in_err-points : goal.returns-in_err-points
returns-in_err-points c =
    let a = c.args in
    let g = c.read_splines in
    let rest = take (length a.list.now - 1) (drop 1 a.list.now) in
    let e = c.in_err-points.field-0.0 in
    rw (passed_on c.from_residual.result e (Err e) c.from_residual.ensures.1 refl)
    (rest_stop _ e.0 e.1 _ _ _ _ _ _ (after_stop a.total a.limit (length a.deltas.now) a.s a.list.now rest (get_or a.list.now 0 0) c.in-len1-up.len_at_least refl (part_tail 1 a.list.now)
    a.counts.now g.new.counts a.deltas.now g.new.deltas a.coefficients.now g.new.coefficients e.0 e.1 c.in_err-points.ensures))

pub returns-then-used-rest : goal.returns-then-used-rest
returns-then-used-rest c =
    let a = c.args in
    let g = c.read_splines in
    let rest = take (length a.list.now - 1) (drop 1 a.list.now) in
    rest_stop _ Code.Trail _ _ _ _ _ _ _ (after_trail a.total a.limit (length a.deltas.now) a.s a.list.now rest (get_or a.list.now 0 0) c.in-len1-up.len_at_least refl (part_tail 1 a.list.now)
    a.counts.now g.new.counts a.deltas.now g.new.deltas a.coefficients.now g.new.coefficients c.in_ok-points.points c.in_ok-points.ensures c.if-used-rest.true)

pub returns : goal.returns
returns c =
    let z = to_z-of_z {w = w32} {z = c.unpack_signed.result} (record { sfits = c.unpack_signed.type_inv }) ∙ c.unpack_signed.ensures in
    let a = c.args in
    let g = c.read_splines in
    let rest = take (length a.list.now - 1) (drop 1 a.list.now) in
    rw z (after_done a.total a.limit (length a.deltas.now) a.s a.list.now rest (get_or a.list.now 0 0) c.in-len1-up.len_at_least refl (part_tail 1 a.list.now)
    a.counts.now g.new.counts a.deltas.now g.new.deltas a.coefficients.now g.new.coefficients c.in_ok-points.points c.in_ok-points.ensures c.if-used-rest.false)
