-- The strand of one spline of a description, from its start. Definitions only.
use Rattle.std.specs.Prelude.{◌≡◌, Bool, List, ℕ, ◌+◌, ◌*◌, ℤ, length, get_or, take, drop, Float}
use Rattle.std.specs.Float.{nan}
use Rattle.dequantize.specs.declared.Given.{Given}
use Rattle.dequantize.specs.declared.Spline.{Spline}
use Rattle.control_points.specs.Answers.{Start, At, Out}
use Rattle.control_points.specs.ControlPoints.{starting_point}
use Rattle.dequantize.specs.Dequantize.{dequantize_of, spline_in}
use Rattle.curve.specs.Curve.{path_room}
use Rattle.walk.specs.Walk.{walk_room}
use Rattle.points.specs.Filled.{Filled}
use Rattle.points.specs.Points.{segment_room, FilledOn}
use Rattle.strand.specs.Strand.{Strand, NoRoom, strand_of, strand_filled, segments_of}

-- from a start; a start that is no place was refused before
abbrev pub strand_at : ℕ → ℕ → Start → List ℤ → Spline → Bool → Strand
strand_at p w Out ds s high = NoRoom
strand_at p w (At start) ds s high = strand_of p w start ds s high

-- the spline k of lists of starts and of coefficients, whose double deltas are ds, with so many numbers lent for a path and a walk
abbrev pub strand_here : List Float → List ℤ → List ℤ → ℕ → Given → Bool → ℕ → ℕ → Strand
strand_here starts ds coefficients k g high path walk =
    let x = get_or starts (2 * k) nan in
    let y = get_or starts (2 * k + 1) nan in
    strand_at (path_room path) (walk_room walk) (starting_point x y) ds (spline_in (dequantize_of x y ds (take 128 (drop (128 * k) coefficients)) g)) high

-- what one spline answers after the first `from` segments, and what it leaves: o is the buffer before, e after
abbrev pub Fills : ℕ → Strand → Filled → List Float → List Float → Type 0
Fills from s r o e = (r ≡ strand_filled (segment_room (length o)) from s) × FilledOn r from (segments_of s) o e
