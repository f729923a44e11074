use mathlib.Core.Path.{◌≡◌, ◌∙◌}
use mathlib.Core.Bool.{true, false}
use Prim.Native.Nat.{◌-◌, ◌*◌}
use native.Mathlib.Omega.{arith}
use lib.ListN.{length, take}
use mir.Syntax.{w64}
use mir.Val.{to_z}
use mir.Facts.{to_z-of_z}
use Rattle.codes.specs.declared.Code.{Code}
use lib.Dec.{eqb}
use Rattle.list.specs.List.{pos_limit, beyond, starts_in}
use Rattle.read_steps.proofs.Numbers.{not_far, judge, as_small}
use Rattle.read_steps.proofs.Turns.{keep_pair, shorter, filled_done, filled_stop, starts_short, starts_far, starts_more}
use Rattle.read_steps.proofs.read_starts.Goals as goal

pub returns-in_default : goal.returns-in_default
returns-in_default c =
    let a = c.args in
    let v = c.loop-i in
    filled_stop _ (take (2 * v.i) v.out) _ _ Code.Short a.total
    (v.invariant.4 ∙ rw (starts_short a.total (eqb v.i 0) (to_z w64 v.last_x-bits) (to_z w64 v.last_y-bits) (a.n - v.i) v.rest.now (omega arith) c.in_default.len_below))

pub returns-then-far : goal.returns-then-far
returns-then-far c =
    let a = c.args in
    let v = c.loop-i in
    let zx = to_z-of_z {w = w64} {z = c.coordinate_of-x.result} (record { sfits = c.coordinate_of-x.type_inv }) in
    let zy = to_z-of_z {w = w64} {z = c.coordinate_of-y.result} (record { sfits = c.coordinate_of-y.type_inv }) in
    let judged : beyond pos_limit c.coordinate_of-x.result c.coordinate_of-y.result ≡ true
    = judge zx zy c.far.ensures c.if-far.true in
    filled_stop _ (take (2 * v.i) v.out) _ _ Code.Coord (a.total - length v.rest.now)
    (v.invariant.4 ∙ rw (starts_far a.total (eqb v.i 0) (to_z w64 v.last_x-bits) (to_z w64 v.last_y-bits) c.coordinate_of-x.result c.coordinate_of-y.result (a.n - v.i) v.rest.now (omega arith) c.in-len2-up.len_at_least c.coordinate_of-x.ensures c.coordinate_of-y.ensures judged))

pub start_of-requires : goal.start_of-requires
start_of-requires c =
    let zx = to_z-of_z {w = w64} {z = c.coordinate_of-x.result} (record { sfits = c.coordinate_of-x.type_inv }) in
    let zy = to_z-of_z {w = w64} {z = c.coordinate_of-y.result} (record { sfits = c.coordinate_of-y.type_inv }) in
    let judged : beyond pos_limit c.coordinate_of-x.result c.coordinate_of-y.result ≡ false
    = judge zx zy c.far.ensures c.if-far.false in
    let near = not_far c.coordinate_of-x.result c.coordinate_of-y.result judged in
    as_small zx near.0

pub start_of-requires-in-loop-i : goal.start_of-requires-in-loop-i
start_of-requires-in-loop-i c =
    let zx = to_z-of_z {w = w64} {z = c.coordinate_of-x.result} (record { sfits = c.coordinate_of-x.type_inv }) in
    let zy = to_z-of_z {w = w64} {z = c.coordinate_of-y.result} (record { sfits = c.coordinate_of-y.type_inv }) in
    let judged : beyond pos_limit c.coordinate_of-x.result c.coordinate_of-y.result ≡ false
    = judge zx zy c.far.ensures c.if-far.false in
    let near = not_far c.coordinate_of-x.result c.coordinate_of-y.result judged in
    as_small zy near.1

pub loop-i-preserved : goal.loop-i-preserved
loop-i-preserved c =
    let zx = to_z-of_z {w = w64} {z = c.coordinate_of-x.result} (record { sfits = c.coordinate_of-x.type_inv }) in
    let zy = to_z-of_z {w = w64} {z = c.coordinate_of-y.result} (record { sfits = c.coordinate_of-y.type_inv }) in
    let judged : beyond pos_limit c.coordinate_of-x.result c.coordinate_of-y.result ≡ false
    = judge zx zy c.far.ensures c.if-far.false in
    let near = not_far c.coordinate_of-x.result c.coordinate_of-y.result judged in
    let a = c.args in
    let v = c.loop-i in
    let x = c.coordinate_of-x.result in
    let y = c.coordinate_of-y.result in (
      shorter v.rest.now (omega arith),
      keep_pair v.out a.out.now v.i _ _ v.invariant.1,
      as_small zx near.0,
      as_small zy near.1,
      rw (c.start_of.ensures, c.start_of-in-loop-i.ensures, zx, zy)
          (starts_more a.total a.n v.i a.list.now v.rest.now v.out (eqb v.i 0) (to_z w64 v.last_x-bits) (to_z w64 v.last_y-bits) x y
          v.invariant.4 (omega arith) (omega arith) c.in-len2-up.len_at_least c.coordinate_of-x.ensures c.coordinate_of-y.ensures judged),
    )

pub returns : goal.returns
unfolding starts_in
returns c =
    let a = c.args in
    let v = c.loop-i in
    let m : a.n - v.i ≡ 0 = omega arith in
    filled_done _ _ _ v.rest.now (2 * v.i) (v.invariant.4 ∙ rw m) v.invariant.1 (omega arith)
