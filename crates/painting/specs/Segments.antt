-- The segments of a description with their owners, with no word of what is lent; then the room that they need, and the first spline that lacks it. Definitions only.
-- The laws are in proofs/Segments.antt: a description has one list of segments (`makes_one`), and drawing gives it or lacks room exactly so (`all_exactly`, `room_exactly`).
use Rattle.std.specs.Prelude.{◌≡◌, Bool, List, [], ◌++◌, ◌⊎◌, ℕ, suc, ◌+◌, ◌*◌, ◌/◌, ◌^◌, ◌≤◌, ◌<◌, min, length, get_or}
use Rattle.dequantize.specs.declared.Given.{Given}
use Rattle.control_points.specs.declared.Pair.{Pair}
use Rattle.control_points.specs.Answers.{At}
use Rattle.control_points.specs.ControlPoints.{starting_point}
use Rattle.dequantize.specs.Judge.{Description, start_x, start_y, deltas_of, spline_of}
use Rattle.segments.specs.declared.Segment.{Segment}
use Rattle.curve.specs.Curve as Curve
use Rattle.curve.specs.Curve.{path_of}
use Rattle.walk.specs.Walk.{PointToDraw, More, walk_in, Walks}
use Rattle.strand.specs.Strand.{walk_segments}
use Rattle.owners.specs.Owners.{owners_of}

-- as many records as are needed are lent, and no more are needed than the limit; or not
abbrev pub Suffices : ℕ → ℕ → ℕ → Type 0
Suffices lent limit needed = (needed ≤ lent) × (needed ≤ limit)

abbrev pub Lacks : ℕ → ℕ → ℕ → Type 0
Lacks lent limit needed = (lent < needed) ⊎ (limit < needed)

-- the records of a path: 16(n - 1) + 1 for the n control points of the spline k, which are one more than its double deltas
abbrev pub path_needs : Description → ℕ → ℕ
path_needs d k = 16 * get_or d.counts k 0 + 1

module _ (d : Description) (g : Given) (high : Bool) where
  -- ---- the segments

  -- the spline k makes these segments: from its start, along its path, at the points of its walk
  pub record SplineMakes (k : ℕ) (segs : List Segment) : Type 0 where
    pub start : Pair
    pub begins : starting_point (start_x d k) (start_y d k) ≡ At start
    pub points : List PointToDraw
    pub walks : Walks (Curve.flat (path_of start (deltas_of d k))) points
    pub are : segs ≡ walk_segments (spline_of d g k) high points

  -- the first splines, so many of them, make these segments, in their order; and the owner of a segment is the number of the spline that makes it
  pub data MakesUpTo : ℕ → List Segment → List ℕ → Type 0 where
    none_made : MakesUpTo 0 [] []
    one_made : {k : ℕ} {segs own : List Segment} {owners : List ℕ} → MakesUpTo k segs owners → SplineMakes k own → MakesUpTo (suc k) (segs ++ own) (owners ++ owners_of k own)

  -- ---- the room

  -- how many numbers are lent for a path, a walk, the segments and their owners: two, three and eight a record, and one an owner
  module _ (path walk segments owned : ℕ) where
    -- the spline k has room, where those before it have made so many segments
    pub record SplineFits (before k : ℕ) (own : List Segment) : Type 0 where
      pub makes : SplineMakes k own
      pub path_fits : Suffices (path / 2) (2 ^ 23) (path_needs d k)
      pub walk_fits : Suffices (walk / 3) (2 ^ 23) (length makes.points)
      pub segments_fit : Suffices (min (segments / 8) owned) (2 ^ 24) (before + length own)

    -- the first splines, so many of them, make these segments, and each has room
    pub data DrawnUpTo : ℕ → List Segment → List ℕ → Type 0 where
      none_drawn : DrawnUpTo 0 [] []
      one_drawn : {k : ℕ} {segs own : List Segment} {owners : List ℕ} → DrawnUpTo k segs owners → SplineFits (length segs) k own → DrawnUpTo (suc k) (segs ++ own) (owners ++ owners_of k own)

    -- why the spline k has no room, where those before it have made so many segments
    pub data SplineLacks (before k : ℕ) : Type 0 where
      -- its path needs more records than are lent, or than 2^23
      path_lacks : Lacks (path / 2) (2 ^ 23) (path_needs d k) → SplineLacks before k
      -- its path has room, and its walk does not end within the records that are lent, or within 2^23
      walk_lacks : (start : Pair) → starting_point (start_x d k) (start_y d k) ≡ At start → Suffices (path / 2) (2 ^ 23) (path_needs d k)
          → (walk_in (walk / 3) (Curve.flat (path_of start (deltas_of d k))) ≡ More) ⊎ (walk_in (2 ^ 23) (Curve.flat (path_of start (deltas_of d k))) ≡ More)
          → SplineLacks before k
      -- its path and its walk have room, and the segments so far and its own are more than are lent, records or owners, or than 2^24
      segments_lack : {own : List Segment} (m : SplineMakes k own) → Suffices (path / 2) (2 ^ 23) (path_needs d k) → Suffices (walk / 3) (2 ^ 23) (length m.points)
          → Lacks (min (segments / 8) owned) (2 ^ 24) (before + length own) → SplineLacks before k

    -- the spline k is the first without room
    pub record FirstLacks (k : ℕ) : Type 0 where
      pub is_there : k < length d.counts
      pub segs : List Segment
      pub owners : List ℕ
      pub before : DrawnUpTo k segs owners
      pub why : SplineLacks (length segs) k
