-- The rows and columns of a segment as spline.rs writes them: rounded, converted by `as`, which saturates, and one more, which wraps at 64 bits. Definitions only.
use Rattle.std.specs.Prelude.{◌≡◌, cond, ◌&&◌, ℕ, ◌+◌, ◌-◌, ◌*◌, ◌/◌, ◌%◌, ◌^◌, T, leb, ltb, ℤ, pos, neg_ℤ, ◌+ℤ◌, Float}
use Rattle.std.specs.Int.Signed.{le_z, lt_z}
use Rattle.std.specs.Float.{nan, inf, fin, binary32}
use Rattle.std.specs.Float.Ieee.{up, down, fits, to_signed, to_unsigned}
use Rattle.numbers.specs.Arith.{◌⊕◌, ◌⊖◌}
use Rattle.wholes.specs.Whole.{round_of}
use Rattle.segments.specs.Ranges.{has_row, has_column}
use Rattle.segments.specs.Bounds.{Bound, under, at, over, rounded}
use Rattle.segments.specs.declared.Segment.{Segment}

-- a whole float as a number: a NaN counts 0, and an infinity lies beyond every number
unfoldable pub bound_of : Float → Bound
bound_of nan = at (pos 0)
bound_of (inf s) = cond s under over
bound_of (fin s m e) = at (cond s (neg_ℤ (pos (m * up e / down e))) (pos (m * up e / down e)))

-- z + 1 of an i64: the largest becomes the least
abbrev pub one_more_i64 : ℤ → ℤ
one_more_i64 z = cond (le_z (pos (2 ^ 63 - 1)) z) (neg_ℤ (pos (2 ^ 63))) (z +ℤ pos 1)

-- n + 1 of a usize of 64 bits: the largest becomes 0
abbrev pub one_more_usize : ℕ → ℕ
one_more_usize n = (n + 1) % 2 ^ 64

-- `x.round() as i64`, `x.round() as usize`
abbrev pub as_i64 : Float → ℤ
as_i64 x = to_signed 63 (round_of binary32 x)

abbrev pub as_usize : Float → ℕ
as_usize x = to_unsigned 64 (round_of binary32 x)

-- R of the starts, a float made whole, and R of the rows and columns, a number, are one R; the rows are `y0..y1` of `add_segment`, from 0 on, and the columns `clamped_x0..clamped_x1` of `draw_segment`
pub record AsSplineRs : Type 0 where
  pub one_r : (x : Float) → T (fits binary32 x) → rounded x ≡ bound_of (round_of binary32 x)
  pub rows : (s : Segment) (y : ℕ)
      → has_row s y ≡ le_z (as_i64 (s.center_y ⊖ s.maximum_distance)) (pos y) && lt_z (pos y) (one_more_i64 (as_i64 (s.center_y ⊕ s.maximum_distance)))
  pub columns : (s : Segment) (x : ℕ)
      → has_column s x ≡ leb (as_usize (s.center_x ⊖ s.maximum_distance)) x && ltb x (one_more_usize (as_usize (s.center_x ⊕ s.maximum_distance)))
