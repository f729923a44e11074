-- Segments laid flat, eight numbers each, are found again by number: from the front, one segment at a time.
use mathlib.Core.Path.{◌≡◌, refl, ap, ◌∙◌}
use mathlib.Core.List.{List, [], ◌∷◌, ◌++◌}
use Prim.Native.Nat.{ℕ, zero, suc, ◌+◌, ◌*◌, ◌<◌}
use native.Mathlib.Omega.{arith}
use lib.ListN.{length, get_or}
use lib.Seq.{get_or-append-add}
use lib.Ieee.{Float, nan}
use Rattle.segments.specs.declared.Segment.{Segment}
use Rattle.segments.specs.Segment.{field, segment_at, eight_of}
use Rattle.points.specs.Points.{eights}

field_after : (s : Segment) (l : List Float) (i j : ℕ) → field (eight_of s ++ l) (suc i) j ≡ field l i j
field_after s l i j =
    let e : 8 * suc i + j ≡ 8 + (8 * i + j) = omega arith in
    ap (λ (n : ℕ). get_or (eight_of s ++ l) n nan) e ∙ get_or-append-add (eight_of s) l (8 * i + j) nan

pub segment_after : (s : Segment) (l : List Float) (i : ℕ) → segment_at (eight_of s ++ l) (suc i) ≡ segment_at l i
unfolding segment_at
segment_after s l i =
    rw (field_after s l i 0, field_after s l i 1, field_after s l i 2, field_after s l i 3, field_after s l i 4, field_after s l i 5, field_after s l i 6, field_after s l i 7)

pub segment_first : (s : Segment) (l : List Float) → segment_at (eight_of s ++ l) 0 ≡ s
unfolding segment_at
segment_first s l = refl

pub segment_at_lem : (segs : List Segment) (rest : List Float) (d : Segment) (i : ℕ) → i < length segs → segment_at (eights segs ++ rest) i ≡ get_or segs i d
unfolding eights
segment_at_lem [] rest d i h = absurd (omega arith)
segment_at_lem (s ∷ segs) rest d zero h = segment_first s (eights segs ++ rest)
segment_at_lem (s ∷ segs) rest d (suc i) h = segment_after s (eights segs ++ rest) i ∙ segment_at_lem segs rest d i (omega arith)

-- Assumes nothing.
