-- `draw_all`: as many records are lent as there is room for segments with an owner.
-- all splines, drawn with so much room for segments
use Prim.Native.Nat.{ℕ}
use native.Mathlib.Omega.{arith}
use lib.ListN.{length}
use Rattle.dequantize.specs.Judge.{description_in}
use Rattle.curve.specs.Curve.{path_room}
use Rattle.walk.specs.Walk.{walk_room}
use Rattle.painting.specs.Painting.{paint_of}
use Rattle.painting.proofs.Rooms.{room_is, part_drawn}
use Rattle.painting.proofs.draw_all.Goals as goal

pub slice_bounds-draw_each-end : goal.slice_bounds-draw_each-end
slice_bounds-draw_each-end c = omega (arith, (room_is c.args.out.now _ c.room-end.result c.room-end.ensures).0)

pub slice_bounds-draw_each-end-2 : goal.slice_bounds-draw_each-end-2
slice_bounds-draw_each-end-2 c = (room_is c.args.out.now _ c.room-end.result c.room-end.ensures).1

pub draw_each-requires : goal.draw_each-requires
draw_each-requires c =
    let h = room_is c.args.out.now _ c.room-end.result c.room-end.ensures in
    (c.requires.0, c.requires.1, omega (arith, h.2, h.3, c.room-end.ensures))

pub returns : goal.returns
returns c =
    let m = c.room-end in
    let d = c.draw_each in
    part_drawn (λ (room : ℕ). paint_of (description_in c.args.description.now) c.args.given c.args.high_precision (path_room (length c.args.path.now)) (walk_room (length c.args.walk.now)) room)
    c.args.out.now d.new.out c.args.owners.now d.new.owners m.result m.ensures d.ensures
