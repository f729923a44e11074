-- What painting comes to in the rooms that are lent to a build, as the laws of this crate speak of it.
use Rattle.dequantize.specs.Judge.{Description}
use Rattle.curve.specs.Curve.{path_room}
use Rattle.walk.specs.Walk.{walk_room}
use Rattle.owners.specs.Owners.{owned_room}
use Rattle.painting.specs.Painting.{Painted, paint_of}
use Rattle.table.specs.Table.{Setting, BuildRooms, given_of}

-- all splines, drawn with the room that is lent
abbrev pub painted : Description → Setting → BuildRooms → Painted
painted d i r = paint_of d (given_of i) i.high (path_room r.path) (walk_room r.walk) (owned_room r.segments r.owners)

-- Assumes nothing.
