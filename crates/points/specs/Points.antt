-- `add_segments_from_points` of spline.rs at a distance of 1: the segments that a walk makes, and what a lent buffer then holds. Definitions only.
-- A walk is a list of three numbers a point: x, y and multiplier.
use Rattle.std.specs.Prelude.{◌≡◌, Bool, cond, List, [], ◌∷◌, ◌++◌, ℕ, zero, suc, ◌+◌, ◌*◌, ◌/◌, min, leb, pos, length, get_or, Option, Some, None, Float}
use Rattle.std.proofs.lemmas.List.Edits.{sets}
use Rattle.std.specs.Float.{nan, binary32}
use Rattle.std.specs.Float.Ieee.{of_int}
use Rattle.numbers.specs.Arith.{f, 1·0, ◌⊗◌, ◌⊘◌}
use Rattle.numbers.specs.Magnitude.{min_of}
use Rattle.dequantize.specs.declared.Spline.{Spline}
use Rattle.segments.specs.declared.Segment.{Segment}
use Rattle.segments.specs.Segment.{add_segment, eight_of}
use Rattle.transform.specs.Transform.{sums_of}
use Rattle.points.specs.Filled.{Filled, Count, Room}

abbrev 31·0 : Float
31·0 = f 0x41f80000

-- (point_index * desired_distance * inv_length).min(1.0)
unfoldable pub progress_of : Float → ℕ → Float
progress_of invLength i = min_of (of_int binary32 (pos i) ⊗ 1·0 ⊗ invLength) 1·0

-- t
unfoldable pub curve_time : Float → ℕ → Float
unfolding progress_of
curve_time invLength i = 31·0 ⊗ progress_of invLength i

-- what point i makes
unfoldable pub point_segment : Spline → Float → Bool → List Float → ℕ → Option Segment
point_segment s invLength high walk i =
    let sums = sums_of s (curve_time invLength i) in
    add_segment (get_or walk (3 * i) nan) (get_or walk (3 * i + 1) nan) (get_or walk (3 * i + 2) nan) sums.x sums.y sums.b sums.sigma high

abbrev pub made_of : Option Segment → List Segment
made_of None = []
made_of (Some s) = s ∷ []

-- the segments of the n points from i on
unfoldable pub segments_from : Spline → Float → Bool → List Float → ℕ → ℕ → List Segment
segments_from s invLength high walk i zero = []
segments_from s invLength high walk i (suc n) = made_of (point_segment s invLength high walk i) ++ segments_from s invLength high walk (suc i) n

-- of all points of a walk with its length
unfoldable pub add_segments_from_points : Spline → List Float → Float → Bool → List Segment
add_segments_from_points s walk l high = segments_from s (1·0 ⊘ l) high walk 0 (length walk / 3)

-- ---- in a lent buffer

-- eight numbers a segment
unfoldable pub eights : List Segment → List Float
eights [] = []
eights (s ∷ l) = eight_of s ++ eights l

-- how many segments a buffer of n numbers has room for
abbrev pub segment_room : ℕ → ℕ
segment_room n = min (n / 8) 16777216

-- the segments after the first `from` ones
unfoldable pub filled_of : ℕ → ℕ → List Segment → Filled
filled_of room from segs = cond (leb (from + length segs) room) (Count (from + length segs)) Room

-- o is the buffer before, e after; without room nothing is said of it
abbrev pub FilledOn : Filled → ℕ → List Segment → List Float → List Float → Type 0
FilledOn Room from segs o e = Unit
FilledOn (Count n) from segs o e = e ≡ sets o (8 * from) (eights segs)
