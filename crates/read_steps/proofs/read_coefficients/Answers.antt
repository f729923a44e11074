use mathlib.Core.Path.{◌≡◌, ◌∙◌}
use Prim.Native.Nat.{◌-◌}
use native.Mathlib.Omega.{arith}
use lib.ListN.{take}
use mir.Syntax.{w32}
use mir.Facts.{to_z-of_z}
use Rattle.codes.specs.declared.Code.{Code}
use Rattle.list.specs.List.{coefficients_in}
use Rattle.read_steps.proofs.Turns.{keep_one, filled_done, filled_stop, coefficients_short, coefficients_more}
use Rattle.read_steps.proofs.read_coefficients.Goals as goal

pub returns-in_default : goal.returns-in_default
returns-in_default c =
    let a = c.args in
    let v = c.loop-i in
    filled_stop _ (take v.i v.out) _ _ Code.Short a.total (v.invariant.1 ∙ rw (coefficients_short a.total (a.n - v.i) v.rest.now (omega arith) c.in_default.len_below))

pub loop-i-preserved : goal.loop-i-preserved
loop-i-preserved c =
    let a = c.args in
    let v = c.loop-i in
    let z = to_z-of_z {w = w32} {z = c.unpack_signed.result} (record { sfits = c.unpack_signed.type_inv }) ∙ c.unpack_signed.ensures in (
      keep_one v.out a.out.now v.i _ v.invariant.0,
      rw z (coefficients_more a.total a.n v.i a.list.now v.rest.now v.out v.invariant.1 (omega arith) (omega arith) c.in-len1-up.len_at_least),
    )

pub returns : goal.returns
unfolding coefficients_in
returns c =
    let a = c.args in
    let v = c.loop-i in
    let m : a.n - v.i ≡ 0 = omega arith in
    filled_done _ _ _ v.rest.now v.i (v.invariant.1 ∙ rw m) v.invariant.0 (omega arith)
