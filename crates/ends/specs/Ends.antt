-- The first and one past the last row and column of a segment, by the float that is an end: whole numbers cut at 2^24, which no image reaches. Definitions only.
-- The float is rounded half away from zero and told by its kind: an exact number, no number, or below or above the range of the conversion, which is an i64's for rows and a u64's for columns.
use Rattle.std.specs.Prelude.{ℕ, suc, ◌^◌, min, ℤ, pos, negsuc, Float}
use Rattle.std.specs.Float.{binary32}
use Rattle.wholes.specs.Whole.{round_of}
use Rattle.kinds.specs.Kind.{cut_i64, cut_u64}
use Rattle.kinds.specs.declared.Kind.{Kind}
use Rattle.kinds.specs.declared.Kind.TheVariants.{Exact, NotNumber, Below, Above}

abbrev pub clip : ℤ → ℕ
clip (pos n) = min n (2 ^ 24)
clip (negsuc n) = 0

abbrev pub clip_past : ℤ → ℕ
clip_past (pos n) = suc (min n (2 ^ 24))
clip_past (negsuc n) = 0

abbrev pub row_first_by : Kind ℤ → ℕ
row_first_by (Exact z) = clip z
row_first_by NotNumber = 0
row_first_by Below = 0
row_first_by Above = 2 ^ 24

abbrev pub row_past_by : Kind ℤ → ℕ
row_past_by (Exact z) = clip_past z
row_past_by NotNumber = 1
row_past_by Below = 0
row_past_by Above = 0

abbrev pub column_first_by : Kind ℕ → ℕ
column_first_by (Exact n) = min n (2 ^ 24)
column_first_by NotNumber = 0
column_first_by Below = 0
column_first_by Above = 2 ^ 24

abbrev pub column_past_by : Kind ℕ → ℕ
column_past_by (Exact n) = suc (min n (2 ^ 24))
column_past_by NotNumber = 1
column_past_by Below = 1
column_past_by Above = 0

unfoldable pub row_first_of : Float → ℕ
row_first_of x = row_first_by (cut_i64 (round_of binary32 x))

unfoldable pub row_past_of : Float → ℕ
row_past_of x = row_past_by (cut_i64 (round_of binary32 x))

unfoldable pub column_first_of : Float → ℕ
column_first_of x = column_first_by (cut_u64 (round_of binary32 x))

unfoldable pub column_past_of : Float → ℕ
column_past_of x = column_past_by (cut_u64 (round_of binary32 x))
