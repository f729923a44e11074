-- The ranges of a segment as they were said before they were said by kind: an end is a bound, and a NaN counts 0. Definitions only.
-- R rounds half away from zero, a NaN to 0; an infinity lies beyond every whole number.
use Rattle.std.specs.Prelude.{◌≡◌, Bool, true, false, cond, ◌&&◌, ℕ, ◌*◌, ◌^◌, leb, ltb, ℤ, pos, negsuc, neg_ℤ, Float}
use Rattle.std.specs.Float.{nan, inf, fin}
use Rattle.std.specs.Float.Ieee.{up, down}
use Rattle.numbers.specs.Arith.{◌⊕◌, ◌⊖◌}
use Rattle.wholes.specs.Whole.{half}
use Rattle.segments.specs.Ranges.{has_row, has_column}
use Rattle.segments.specs.declared.Segment.{Segment}

-- a whole number, or beyond them on either side
pub data Bound : Type 0 where
  under : Bound
  at : ℤ → Bound
  over : Bound

-- R
unfoldable pub rounded : Float → Bound
rounded nan = at (pos 0)
rounded (inf s) = cond s under over
rounded (fin s m e) = at (cond s (neg_ℤ (pos (half (m * up e) (down e)))) (pos (half (m * up e) (down e))))

-- R0: negatives made 0
abbrev pub or_zero : Bound → Bound
or_zero under = at (pos 0)
or_zero (at (pos n)) = at (pos n)
or_zero (at (negsuc n)) = at (pos 0)
or_zero over = over

abbrev pub begins_by : Bound → ℕ → Bool
begins_by under y = true
begins_by (at (pos n)) y = leb n y
begins_by (at (negsuc n)) y = true
begins_by over y = false

-- a last number at the limit or beyond leaves nothing
abbrev pub lasts_to : ℕ → Bound → ℕ → Bool
lasts_to limit under y = false
lasts_to limit (at (pos n)) y = ltb n limit && leb y n
lasts_to limit (at (negsuc n)) y = false
lasts_to limit over y = false

-- the rows and columns are as before
abbrev pub RowsByKind : Type 0
RowsByKind =
    (s : Segment) (y : ℕ)
    → has_row s y ≡ begins_by (rounded (s.center_y ⊖ s.maximum_distance)) y && lasts_to (2 ^ 63) (rounded (s.center_y ⊕ s.maximum_distance)) y

abbrev pub ColumnsByKind : Type 0
ColumnsByKind =
    (s : Segment) (x : ℕ)
    → has_column s x ≡ begins_by (or_zero (rounded (s.center_x ⊖ s.maximum_distance))) x && lasts_to (2 ^ 64) (or_zero (rounded (s.center_x ⊕ s.maximum_distance))) x
