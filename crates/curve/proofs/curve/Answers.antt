-- `curve::curve`: the path's length decides on the room, and the path is the start alone or what `put_path` writes.
use mathlib.Core.Path.{◌≡◌, refl, ◌∙◌}
use mathlib.Core.List.{[]}
use native.Mathlib.Omega.{arith}
use lib.ListN.{length}
use Rattle.buffers.proofs.Filling.{filled_none, filled_more, filled_all}
use Rattle.control_points.specs.ControlPoints.{stand_at}
use Rattle.curve.specs.Curve.{point_of, path_of, flat, path_room}
use Rattle.curve.proofs.Paths.{two, length_path, path_one, curved_room, curved_points}
use Rattle.curve.proofs.curve.Goals as goal

pub returns-then-room-eq0 : goal.returns-then-room-eq0
returns-then-room-eq0 c =
    let a = c.args in
    curved_room (path_room (length a.out.now)) (path_of a.start a.deltas.now) a.out.now
    (omega (arith, length_path a.start a.deltas.now))

pub of-p-requires : goal.of-p-requires
unfolding stand_at
of-p-requires c = c.requires.point

pub returns-then-m-eq0 : goal.returns-then-m-eq0
returns-then-m-eq0 c =
    let a = c.args in
    let l = length_path a.start a.deltas.now in
    let r = c.path_room-room.ensures in
    let e : flat (path_of a.start a.deltas.now) ≡ two (point_of a.start) = path_one a.start a.deltas.now (omega (arith, c.if-m-eq0.true)) in
    curved_points (path_room (length a.out.now)) (path_of a.start a.deltas.now) a.out.now _ 1 (omega (arith, c.if-m-eq0.true)) (omega (arith, c.if-m-eq0.true, c.if-room-eq0.false))
    (rw c.of-p.ensures at c.put.ensures
    ∙ filled_all (filled_more (two (point_of a.start)) [] (filled_none _ e) (omega (arith, c.if-room-eq0.false)) 2 refl))

pub returns : goal.returns
returns c =
    let a = c.args in
    let l = length_path a.start a.deltas.now in
    let r = c.path_room-room.ensures in
    curved_points (path_room (length a.out.now)) (path_of a.start a.deltas.now) a.out.now _ _ (omega arith) (omega (arith, c.if-room-eq0.false, c.if-m-room.false))
    c.put_path.ensures
