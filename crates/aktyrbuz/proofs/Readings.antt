-- The starred readings hold: each by computing, or by the cases of a float.
use mathlib.Core.Path.{refl}
use lib.Ieee.{Float, nan, inf, fin, round, add, sub}
use Rattle.ieee754.proofs.Readings.{round_two_and_a_half, round_minus_a_half, tie_down, tie_up, length_five}
use Rattle.dequantize.proofs.Readings.{level5_none, level5_below, level5_at, adjustment_8, adjustment_minus_8}
use Rattle.wholes.specs.Whole.{whole_by}
use Rattle.kinds.specs.Kind.{kind_by}
use Rattle.segments.specs.Ranges.{has_row, has_column}
use Rattle.segments.specs.Spot.{spot}
use Rattle.aktyrbuz.specs.Demands.{Rows, Columns, Readings}

nan_row : (x y : Float) → Rows (spot x y nan) 0 0
unfolding has_row whole_by kind_by add sub
nan_row x nan r = refl
nan_row x (inf s) r = refl
nan_row x (fin s m e) r = refl

nan_column : (x y : Float) → Columns (spot x y nan) 0 0
unfolding has_column whole_by kind_by add sub
nan_column nan y r = refl
nan_column (inf s) y r = refl
nan_column (fin s m e) y r = refl

pub starred_readings : Readings
unfolding has_row has_column whole_by kind_by round add sub
starred_readings = record {
  unpack_3 = refl;
  unpack_4294967295 = refl;
  level5_area_0 = level5_none;
  level5_area_130023423 = level5_below;
  level5_area_130023424 = level5_at;
  adjustment_8 = adjustment_8;
  adjustment_minus_8 = adjustment_minus_8;
  round-2½ = refl;
  round-minus-½ = refl;
  round-2½-f32 = round_two_and_a_half;
  round-minus-½-f32 = round_minus_a_half;
  f32_16777217 = tie_down;
  f32_16777219 = tie_up;
  length_of_3_4 = length_five;
  rows_3_to_8 = λ x r. refl;
  rows_none = λ x r. refl;
  column_0 = λ y c. refl;
  nan_row_0 = nan_row;
  nan_column_0 = nan_column;
}

-- Assumes nothing.
