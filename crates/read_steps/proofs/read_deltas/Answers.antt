use mathlib.Core.Path.{◌≡◌, ◌∙◌, sym}
use Prim.Native.Nat.{◌-◌, ◌*◌}
use native.Mathlib.Omega.{arith}
use lib.ListN.{length, take}
use mir.Syntax.{w32}
use mir.Facts.{to_z-of_z}
use Rattle.codes.specs.declared.Code.{Code}
use Rattle.list.specs.List.{deltas_in}
use Rattle.read_steps.proofs.Turns.{keep_pair, shorter, filled_done, filled_stop, deltas_short, deltas_wild, deltas_more}
use Rattle.read_steps.proofs.read_deltas.Goals as goal

pub returns-in_default : goal.returns-in_default
returns-in_default c =
    let a = c.args in
    let v = c.loop-i in
    filled_stop _ (take (2 * v.i) v.out) _ _ Code.Short a.total (v.invariant.2 ∙ rw (deltas_short a.total (a.n - v.i) v.rest.now (omega arith) c.in_default.len_below))

pub returns-then-wild : goal.returns-then-wild
returns-then-wild c =
    let a = c.args in
    let v = c.loop-i in
    filled_stop _ (take (2 * v.i) v.out) _ _ Code.Delta (a.total - length v.rest.now)
    (v.invariant.2 ∙ rw (deltas_wild a.total (a.n - v.i) v.rest.now (omega arith) c.in-len2-up.len_at_least (sym c.wild.ensures ∙ c.if-wild.true)))

pub loop-i-preserved : goal.loop-i-preserved
loop-i-preserved c =
    let a = c.args in
    let v = c.loop-i in
    let zx = to_z-of_z {w = w32} {z = c.unpack_signed.result} (record { sfits = c.unpack_signed.type_inv }) ∙ c.unpack_signed.ensures in
    let zy = to_z-of_z {w = w32} {z = c.unpack_signed-in-loop-i.result} (record { sfits = c.unpack_signed-in-loop-i.type_inv }) ∙ c.unpack_signed-in-loop-i.ensures in (
      shorter v.rest.now (omega arith),
      keep_pair v.out a.out.now v.i _ _ v.invariant.1,
      rw (zx, zy) (deltas_more a.total a.n v.i a.list.now v.rest.now v.out v.invariant.2 (omega arith) (omega arith) c.in-len2-up.len_at_least (sym c.wild.ensures ∙ c.if-wild.false)),
    )

pub returns : goal.returns
unfolding deltas_in
returns c =
    let a = c.args in
    let v = c.loop-i in
    let m : a.n - v.i ≡ 0 = omega arith in
    filled_done _ _ _ v.rest.now (2 * v.i) (v.invariant.2 ∙ rw m) v.invariant.1 (omega arith)
