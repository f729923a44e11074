-- The segments that a build draws in the rooms that are lent to it, as the laws of this crate speak of them. Where it is done they are those that its description makes: proofs/Makes.antt.
use mathlib.Core.List.{List, []}
use Rattle.dequantize.specs.Judge.{Description}
use Rattle.segments.specs.declared.Segment.{Segment}
use Rattle.painting.specs.Painting.{Painted, All, NoRoomAt}
use Rattle.table.specs.Table.{BuildRooms, Setting}
use Rattle.table.proofs.InRooms.{painted}

abbrev pub painted_segments : Painted → List Segment
painted_segments (All segments owners) = segments
painted_segments (NoRoomAt k) = []

-- those of all splines, in their order; none where a spline lacks room
unfoldable pub segments_in_rooms : Description → Setting → BuildRooms → List Segment
segments_in_rooms d i r = painted_segments (painted d i r)

-- Assumes nothing.
