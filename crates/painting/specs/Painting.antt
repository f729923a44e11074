-- The second loop of `initialize_draw_cache` of spline.rs over lent buffers: each spline of a judged description is drawn. Definitions only.
use Rattle.std.specs.Prelude.{◌≡◌, Bool, List, [], ◌++◌, ℕ, zero, suc, ◌≤◌, length, Float}
use Rattle.std.proofs.lemmas.List.Edits.{sets}
use Rattle.dequantize.specs.declared.Given.{Given}
use Rattle.dequantize.specs.Answers as Judged
use Rattle.control_points.specs.ControlPoints.{starting_point}
use Rattle.dequantize.specs.Judge.{Description, start_x, start_y, deltas_of, spline_of, judge_of}
use Rattle.segments.specs.declared.Segment.{Segment}
use Rattle.points.specs.Filled.{Filled}
use Rattle.points.specs.Filled as Filled
use Rattle.points.specs.Points.{eights}
use Rattle.strand.specs.Strand.{Strand, strand_filled, segments_of}
use Rattle.strand_at.specs.Strands.{strand_at}
use Rattle.owners.specs.Owners.{owners_of}
use Rattle.painting.specs.Segmented.{Segmented}
use Rattle.painting.specs.Segmented as Segmented

-- the spline k of a description
unfoldable pub strand_of_spline : Description → Given → Bool → ℕ → ℕ → ℕ → Strand
strand_of_spline d g high p w k = strand_at p w (starting_point (start_x d k) (start_y d k)) (deltas_of d k) (spline_of d g k) high

-- the segments of all splines with their owners, or the number of the spline that has no room
pub data Painted : Type 0 where
  All : List Segment → List ℕ → Painted
  NoRoomAt : ℕ → Painted

abbrev pub after_strand : Filled → ℕ → Painted → Painted
after_strand Filled.Room k rest = NoRoomAt k
after_strand (Filled.Count n) k rest = rest

-- the n splines from k on, after the segments done with their owners, with room for p points of a path, w points of a walk and room segments
unfoldable pub paint_from : Description → Given → Bool → ℕ → ℕ → ℕ → ℕ → ℕ → List Segment → List ℕ → Painted
paint_from d g high p w room zero k done owners = All done owners
paint_from d g high p w room (suc n) k done owners =
    let s = strand_of_spline d g high p w k in
    after_strand (strand_filled room (length done) s) k (paint_from d g high p w room n (suc k) (done ++ segments_of s) (owners ++ owners_of k (segments_of s)))

unfoldable pub paint_of : Description → Given → Bool → ℕ → ℕ → ℕ → Painted
paint_of d g high p w room = paint_from d g high p w room (length d.counts) 0 [] []

-- the description was judged
pub record Passed (d : Description) (g : Given) : Type 0 where
  pub total : ℕ
  pub fine : judge_of d g ≡ Judged.Fine total

abbrev pub drawn_of : Painted → Segmented
drawn_of (All segs owners) = Segmented.Count (length segs)
drawn_of (NoRoomAt k) = Segmented.Room k

-- with room for so many segments: o is their buffer before, e after; u is that of the owners before, v after; without room nothing is said of them
abbrev pub DrawnOn : Painted → ℕ → List Float → List Float → List ℕ → List ℕ → Type 0
DrawnOn (NoRoomAt k) room o e u v = Unit
DrawnOn (All segs owners) room o e u v = (e ≡ sets o 0 (eights segs)) × (v ≡ sets u 0 owners) × (length segs ≤ room) × (length owners ≡ length segs)
