use mathlib.Core.Path.{◌≡◌}
use Prim.Native.Nat.{◌+◌, ◌*◌}
use native.Mathlib.Omega.{arith}
use lib.ListN.{length-set}
use Rattle.write_steps.proofs.Stores.{later_begin, later_now, later_more, later_end}
use Rattle.write_steps.proofs.put_later_starts.Goals as goal

pub loop-k-init : goal.loop-k-init
loop-k-init c =
    let a = c.args in
    let h = c.requires in
    later_begin a.starts.now a.list.now h.1 h.3

pub later_value-requires : goal.later_value-requires
later_value-requires c =
    let a = c.args in
    let v = c.loop-k in
    (v.invariant.last_x, (later_now a.starts.now a.list.now v.list (2 * v.k) v.invariant (omega arith)).0)

pub later_value-requires-in-loop-k : goal.later_value-requires-in-loop-k
later_value-requires-in-loop-k c =
    let a = c.args in
    let v = c.loop-k in
    (v.invariant.last_y, (later_now a.starts.now a.list.now v.list (2 * v.k) v.invariant (omega arith)).1)

pub bounds-list-i-in-loop-k : goal.bounds-list-i-in-loop-k
bounds-list-i-in-loop-k c = simp length-set (omega arith)

pub loop-k-preserved : goal.loop-k-preserved
loop-k-preserved c =
    let a = c.args in
    let v = c.loop-k in
    let e : 2 * v.k + 2 ≡ 2 * (v.k + 1) = omega arith in
    rw (← e) (later_more a.starts.now a.list.now v.list (2 * v.k) v.invariant (omega arith) _ _ c.later_value.ensures c.later_value-in-loop-k.ensures c.requires.0)

pub returns : goal.returns
returns c =
    let a = c.args in
    let v = c.loop-k in
    later_end a.starts.now a.list.now v.list (2 * v.k) v.invariant (omega arith)
