-- A segment by its place and its reach, for what is said of rows and columns. Definitions only.
use Rattle.std.specs.Prelude.{Float}
use Rattle.std.specs.Float.{nan}
use Rattle.segments.specs.declared.Segment.{Segment}

-- a segment at x and y with a distance; its other floats do not matter here
abbrev pub spot : Float → Float → Float → Segment
spot x y d = record {
  center_x = x;
  center_y = y;
  maximum_distance = d;
  inv_sigma = nan;
  sigma_over_4_times_intensity = nan;
  color0 = nan;
  color1 = nan;
  color2 = nan;
}
