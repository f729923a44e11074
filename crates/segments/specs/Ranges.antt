-- The rows and columns of a segment: from R(c - d) through R(c + d), by the centre c and the distance d. Definitions only.
-- R rounds half away from zero. Each of the four ends is told by its kind: an exact number, no number, or below or above the range of the conversion, which is an i64's for rows and a u64's for columns.
use Rattle.std.specs.Prelude.{Bool, true, false, ◌&&◌, ℕ, leb, ℤ, pos, negsuc, Float}
use Rattle.std.specs.Float.{binary32}
use Rattle.numbers.specs.Arith.{◌⊕◌, ◌⊖◌}
use Rattle.wholes.specs.Whole.{round_of}
use Rattle.kinds.specs.Kind.{cut_i64, cut_u64}
use Rattle.kinds.specs.declared.Kind.{Kind}
use Rattle.kinds.specs.declared.Kind.TheVariants.{Exact, NotNumber, Below, Above}
use Rattle.ends.specs.Ends.{row_first_of, row_past_of, column_first_of, column_past_of}
use Rattle.segments.specs.declared.Segment.{Segment}
use Rattle.segments.specs.declared.Range.{Range}

-- ---- the ends, by the float that is one

abbrev pub row_end : Float → Kind ℤ
row_end x = cut_i64 (round_of binary32 x)

abbrev pub column_end : Float → Kind ℕ
column_end x = cut_u64 (round_of binary32 x)

-- ---- rows: no number counts 0, and a last row that is negative or above the range leaves none

abbrev pub row_begins : Kind ℤ → ℕ → Bool
row_begins (Exact (pos n)) y = leb n y
row_begins (Exact (negsuc n)) y = true
row_begins NotNumber y = leb 0 y
row_begins Below y = true
row_begins Above y = false

abbrev pub row_lasts : Kind ℤ → ℕ → Bool
row_lasts (Exact (pos n)) y = leb y n
row_lasts (Exact (negsuc n)) y = false
row_lasts NotNumber y = leb y 0
row_lasts Below y = false
row_lasts Above y = false

unfoldable pub has_row : Segment → ℕ → Bool
has_row s y = row_begins (row_end (s.center_y ⊖ s.maximum_distance)) y && row_lasts (row_end (s.center_y ⊕ s.maximum_distance)) y

-- ---- columns: no number, and what is below the range, counts 0 at either end; a last column above the range leaves none

abbrev pub column_begins : Kind ℕ → ℕ → Bool
column_begins (Exact n) x = leb n x
column_begins NotNumber x = leb 0 x
column_begins Below x = leb 0 x
column_begins Above x = false

abbrev pub column_lasts : Kind ℕ → ℕ → Bool
column_lasts (Exact n) x = leb x n
column_lasts NotNumber x = leb x 0
column_lasts Below x = leb x 0
column_lasts Above x = false

unfoldable pub has_column : Segment → ℕ → Bool
has_column s x = column_begins (column_end (s.center_x ⊖ s.maximum_distance)) x && column_lasts (column_end (s.center_x ⊕ s.maximum_distance)) x

-- ---- the same as half-open ranges of whole numbers

abbrev pub row_first : Segment → ℕ
row_first s = row_first_of (s.center_y ⊖ s.maximum_distance)

abbrev pub row_past : Segment → ℕ
row_past s = row_past_of (s.center_y ⊕ s.maximum_distance)

abbrev pub column_first : Segment → ℕ
column_first s = column_first_of (s.center_x ⊖ s.maximum_distance)

abbrev pub column_past : Segment → ℕ
column_past s = column_past_of (s.center_x ⊕ s.maximum_distance)

unfoldable pub rows_of : Segment → Range
rows_of s = record { first = row_first s; past = row_past s }

unfoldable pub columns_of : Segment → Range
columns_of s = record { first = column_first s; past = column_past s }
