-- `add_segment`: which points of the walk make a segment, and its eight floats. Definitions only.
use Rattle.std.specs.Prelude.{Bool, true, false, ◌||◌, List, [], ◌∷◌, ℕ, ◌+◌, ◌*◌, get_or, Option, None, Some, Float}
use Rattle.std.specs.Float.{nan, binary32}
use Rattle.std.specs.Float.Ieee.{neg, eq}
use Rattle.numbers.specs.Arith.{f, 0·0, 0·25, 1·0, ◌⊖◌, ◌⊗◌, ◌⊘◌}
use Rattle.numbers.specs.Magnitude.{abs_of, top_of, is_infinite}
use Rattle.roots.specs.Root.{sqrt_of}
use Rattle.approximations.specs.Ln.{ln_of}
use Rattle.segments.specs.declared.Segment.{Segment}

-- the Rust's literals
abbrev 0·01 : Float
0·01 = f 0x3c23d70a

abbrev 0·1 : Float
0·1 = f 0x3dcccccd

abbrev 2·0 : Float
2·0 = f 0x40000000

abbrev 3·0 : Float
3·0 = f 0x40400000

abbrev 5·0 : Float
5·0 = f 0x40a00000

-- no segment is made: sigma infinite or zero, 1 / sigma infinite, or the intensity infinite
unfoldable pub skipped : Float → Float → Bool
skipped intensity sigma =
    is_infinite sigma || (eq sigma 0·0 || (is_infinite (1·0 ⊘ sigma) || is_infinite intensity))

-- the greatest magnitude by total order
unfoldable pub max_color : Float → Float → Float → Float → Float
max_color intensity c0 c1 c2 =
    top_of (top_of (top_of (abs_of (0·01 ⊗ intensity)) (abs_of (c0 ⊗ intensity))) (abs_of (c1 ⊗ intensity))) (abs_of (c2 ⊗ intensity))

abbrev pub distance_exp : Bool → Float
distance_exp true = 5·0
distance_exp false = 3·0

unfoldable pub max_distance : Float → Float → Bool → Float
max_distance sigma color high =
    sqrt_of binary32 (neg 2·0 ⊗ sigma ⊗ sigma ⊗ (ln_of 0·1 ⊗ distance_exp high ⊖ ln_of color))

abbrev pub segment_of : Float → Float → Float → Float → Float → Float → Float → Bool → Segment
segment_of cx cy intensity c0 c1 c2 sigma high = record {
  center_x = cx;
  center_y = cy;
  maximum_distance = max_distance sigma (max_color intensity c0 c1 c2) high;
  inv_sigma = 1·0 ⊘ sigma;
  sigma_over_4_times_intensity = 0·25 ⊗ sigma ⊗ intensity;
  color0 = c0;
  color1 = c1;
  color2 = c2;
}

abbrev pub unless : Bool → Segment → Option Segment
unless true s = None
unless false s = Some s

unfoldable pub add_segment : Float → Float → Float → Float → Float → Float → Float → Bool → Option Segment
add_segment cx cy intensity c0 c1 c2 sigma high = unless (skipped intensity sigma) (segment_of cx cy intensity c0 c1 c2 sigma high)

-- number j of segment i of a flat list
abbrev pub field : List Float → ℕ → ℕ → Float
field segs i j = get_or segs (8 * i + j) nan

-- the record of eight floats at i
unfoldable pub segment_at : List Float → ℕ → Segment
segment_at segs i = record {
  center_x = field segs i 0;
  center_y = field segs i 1;
  maximum_distance = field segs i 2;
  inv_sigma = field segs i 3;
  sigma_over_4_times_intensity = field segs i 4;
  color0 = field segs i 5;
  color1 = field segs i 6;
  color2 = field segs i 7;
}

abbrev pub eight_of : Segment → List Float
eight_of s =
    s.center_x ∷ s.center_y ∷ s.maximum_distance ∷ s.inv_sigma ∷ s.sigma_over_4_times_intensity ∷ s.color0 ∷ s.color1 ∷ s.color2 ∷ []
