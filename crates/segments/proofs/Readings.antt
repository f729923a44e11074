-- Readings of the scope on rows and columns, computed.
use mathlib.Core.Path.{◌≡◌, refl}
use mathlib.Core.Bool.{true, false}
use Prim.Native.Nat.{ℕ}
use lib.IntN.{pos, negsuc}
use lib.Ieee.{Float, nan, inf, fin, round, add, sub}
use Rattle.wholes.specs.Whole.{whole_by}
use Rattle.kinds.specs.Kind.{kind_by}
use Rattle.ends.specs.Ends.{row_first_of, row_past_of, column_first_of, column_past_of}
use Rattle.segments.specs.Ranges.{rows_of, columns_of}
use Rattle.segments.specs.Spot.{spot}
use Rattle.segments.specs.declared.Range.{Range}

abbrev half_open : ℕ → ℕ → Range
half_open a b = record { first = a; past = b }

-- cy 5, d 2.5: rows 3 to 8
pub rows_3_to_8 : rows_of (spot nan (fin false 5 (pos 0)) (fin false 5 (negsuc 0))) ≡ half_open 3 9
unfolding rows_of row_first_of row_past_of kind_by whole_by round add sub
rows_3_to_8 = refl

-- cy -5, d 2: none
pub rows_none : rows_of (spot nan (fin true 5 (pos 0)) (fin false 1 (pos 1))) ≡ half_open 0 0
unfolding rows_of row_first_of row_past_of kind_by whole_by round add sub
rows_none = refl

-- cx -5, d 2: column 0
pub column_0 : columns_of (spot (fin true 5 (pos 0)) nan (fin false 1 (pos 1))) ≡ half_open 0 1
unfolding columns_of column_first_of column_past_of kind_by whole_by round add sub
column_0 = refl

-- a NaN distance: row 0, column 0
pub nan_row_0 : (x y : Float) → rows_of (spot x y nan) ≡ half_open 0 1
unfolding rows_of row_first_of row_past_of kind_by whole_by round add sub
nan_row_0 x nan = refl
nan_row_0 x (inf s) = refl
nan_row_0 x (fin s m e) = refl

pub nan_column_0 : (x y : Float) → columns_of (spot x y nan) ≡ half_open 0 1
unfolding columns_of column_first_of column_past_of kind_by whole_by round add sub
nan_column_0 nan y = refl
nan_column_0 (inf s) y = refl
nan_column_0 (fin s m e) y = refl

-- Assumes nothing.
