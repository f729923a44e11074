-- The second loop of `initialize_draw_cache` of spline.rs, for one spline: its path, its walk, and the segments that it makes. Definitions only.
use Rattle.std.specs.Prelude.{Bool, cond, List, [], ℕ, ◌-◌, ◌*◌, ◌/◌, leb, ℤ, length, get_or, Float}
use Rattle.std.specs.Float.{nan}
use Rattle.std.specs.Float.Ieee.{le}
use Rattle.numbers.specs.Arith.{f}
use Rattle.control_points.specs.declared.Pair.{Pair}
use Rattle.dequantize.specs.declared.Spline.{Spline}
use Rattle.segments.specs.declared.Segment.{Segment}
use Rattle.curve.specs.Curve as Curve
use Rattle.curve.specs.Curve.{path_of}
use Rattle.walk.specs.Walk.{PointToDraw, Walk, More, Ended, walk_in, walk_length, last_multiplier, flat}
use Rattle.points.specs.Filled.{Filled, Room}
use Rattle.points.specs.Points.{add_segments_from_points, filled_of}

-- the segments of points_to_draw; a length of 0 or less skips the spline
unfoldable pub walk_segments : Spline → Bool → List PointToDraw → List Segment
walk_segments s high points =
    let l = walk_length (length points) (last_multiplier points) in
    cond (le l (f 0)) [] (add_segments_from_points s (flat points) l high)

-- what a spline gives: its segments, or no room for its path or its walk
pub data Strand : Type 0 where
  NoRoom : Strand
  Segments : List Segment → Strand

abbrev pub after_walk : Spline → Bool → Walk → Strand
after_walk s high More = NoRoom
after_walk s high (Ended points) = Segments (walk_segments s high points)

-- the spline that begins at start and has the double deltas ds, where a path may have pathRoom points and a walk walkRoom points
unfoldable pub strand_of : ℕ → ℕ → Pair → List ℤ → Spline → Bool → Strand
strand_of path_room walk_room start ds s high =
    cond (leb (length (path_of start ds)) path_room) (after_walk s high (walk_in walk_room (Curve.flat (path_of start ds)))) NoRoom

-- ---- in a lent buffer

abbrev pub segments_of : Strand → List Segment
segments_of NoRoom = []
segments_of (Segments segs) = segs

-- after the first `from` segments, where a buffer may have room segments
abbrev pub strand_filled : ℕ → ℕ → Strand → Filled
strand_filled room from NoRoom = Room
strand_filled room from (Segments segs) = filled_of room from segs

-- the segments of a walk of three numbers a point
unfoldable pub flat_segments : Spline → Bool → List Float → List Segment
flat_segments s high walk =
    let n = length walk / 3 in
    let l = walk_length n (get_or walk (3 * n - 1) nan) in
    cond (le l (f 0)) [] (add_segments_from_points s walk l high)
