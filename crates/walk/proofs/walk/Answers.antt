use mathlib.Core.Path.{◌≡◌, refl, sym, ◌∙◌}
use Prim.Native.Nat.{◌-◌}
use native.Mathlib.Omega.{arith}
use lib.ListN.{length}
use Rattle.numbers.specs.Arith.{1·0}
use Rattle.walk.specs.Walk.{walk_from, walk_in, walk_room}
use Rattle.walk.proofs.Walking.{walking_begin, walking_more, walking_room, walking_end, walking_over, walk_ends, walk_emits, walk_none}
use Rattle.walk.proofs.walk.Goals as goal

pub returns-then-room-eq0 : goal.returns-then-room-eq0
unfolding walk_in
returns-then-room-eq0 c =
    let e : walk_room (length c.args.out.now) ≡ 0 = sym c.walk_room-room.ensures ∙ c.if-room-eq0.true in
    rw e (refl, tt)

pub loop-n-init : goal.loop-n-init
loop-n-init c =
    let a = c.args in
    let room = c.walk_room-room in (
      refl,
      walking_begin room.result a.path.now a.out.now c.point_at-current.ensures c.if-room-eq0.false (omega arith) c.put.ensures,
    )

pub returns-in-Ends : goal.returns-in-Ends
returns-in-Ends c =
    let l = c.loop-n in
    let a = c.args in
    let room = c.walk_room-room in
    let e : walk_from (room.result - l.n) a.path.now l.next l.current ≡ _ =
    walk_ends room.result l.n a.path.now l.next l.current (omega (arith, c.loop-n-test)) _ _ c.onward.ensures
    c.in-Ends.is in
    rw (← room.ensures)
    (walking_over room.result a.path.now a.out.now c.point_at-current.ensures c.if-room-eq0.false (omega arith) c.put.ensures _ _
    (rw c.put-in-Ends.ensures (walking_end _ _ (rw e at l.invariant.1) (omega (arith, l.invariant, c.loop-n-test)))))

pub loop-n-preserved : goal.loop-n-preserved
loop-n-preserved c =
    let l = c.loop-n in
    let a = c.args in
    let room = c.walk_room-room in
    let e : walk_from (room.result - l.n) a.path.now l.next l.current ≡ _ =
    walk_emits room.result l.n a.path.now l.next l.current (omega (arith, c.loop-n-test)) _ _ c.onward.ensures
    c.in-Emits.is in (
      omega (arith, c.put-in-Emits.auto.out),
      rw c.put-in-Emits.ensures (walking_more _ 1·0 _ (rw e at l.invariant.1) (omega (arith, l.invariant, c.loop-n-test))),
    )

pub returns : goal.returns
returns c =
    let l = c.loop-n in
    let a = c.args in
    let room = c.walk_room-room in
    let e : walk_from (room.result - l.n) a.path.now l.next l.current ≡ _ = walk_none room.result l.n a.path.now l.next l.current (omega arith) in
    rw (← room.ensures)
    (walking_over room.result a.path.now a.out.now c.point_at-current.ensures c.if-room-eq0.false (omega arith) c.put.ensures _ _
    (walking_room _ (rw e at l.invariant.1)))
