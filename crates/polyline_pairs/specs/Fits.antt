-- Numbers that fit on the way through a points text: of a pair, of one that is being read, and of a place.
use Rattle.std.specs.Prelude.{◌≡◌, true, ◌≤◌, Option, Some}
use Rattle.std.specs.Int.Signed.{mag}
use Rattle.control_points.specs.ControlPoints.{valid_point_pos}
use Rattle.control_points.specs.declared.Pair.{Pair}
use Rattle.polyline.specs.declared.Figure.{Figure}
use Rattle.polyline.specs.declared.Track.{Track}
use Rattle.polyline.specs.Tracked.{Empty}

-- the difference of two such pairs fits
pub record Near (q : Pair) : Type 0 where
  pub x : mag q.x ≤ 268435456
  pub y : mag q.y ≤ 268435456

-- a pair of sizes up to 2^24
pub record Small (q : Pair) : Type 0 where
  pub x : mag q.x ≤ 16777216
  pub y : mag q.y ≤ 16777216

-- a pair that is being read, with sizes up to 2^24
pub record Held (f : Figure) : Type 0 where
  pub x : mag f.x ≤ 16777216
  pub size : f.size ≤ 16777216

-- a delta and a point that passed POSITION
abbrev pub track_held : Option Track → Type 0
track_held Empty = Unit {0}
track_held (Some t) = (valid_point_pos t.place.delta ≡ true) × (valid_point_pos t.place.point ≡ true)

pub record OnTrack (t : Option Track) : Type 0 where
  pub held : track_held t
