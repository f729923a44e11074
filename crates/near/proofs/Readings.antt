-- Readings on the edges of a segment: that the premises hold of segments that there are, and how much of the allowance is needed on either side. Distances are told by `apart`, and whether a row is listed
-- is computed from spline.rs's expression.
use mathlib.Core.Path.{◌≡◌, refl}
use mathlib.Core.Bool.{true, false}
use Prim.Native.Nat.{◌+◌, ◌^◌}
use lib.Dec.{lit≤, le→leb}
use lib.IntN.{pos, negsuc}
use lib.Signed.{le_z_yes}
use lib.Ieee.{nan, fin, add, sub, to_signed, to_unsigned}
use Rattle.wholes.specs.Whole.{whole_by}
use Rattle.segments.specs.Ranges.{has_row, has_column}
use Rattle.segments.specs.Spot.{spot}
use Rattle.segments.specs.declared.Segment.{Segment}
use Rattle.segments.proofs.Expressions.{as_spline_rs}
use Rattle.near.specs.Near.{Edge, apart}
use Rattle.near.proofs.Near.{rows_near, columns_near}

-- ---- by the theorem

-- cy 5, d 2.5, in halves 10 and 5: rows 3 to 8
abbrev plain : Segment
plain = spot nan (fin false 5 (pos 0)) (fin false 5 (negsuc 0))

plain_edge : Edge (fin false 5 (pos 0)) (fin false 5 (negsuc 0)) 1 (pos 10) 5
plain_edge = record {
  centre_is = record { sign = false; size = 10; value = (refl, refl); is = refl };
  distance_is = record { sign = false; size = 5; value = (refl, refl); is = refl };
  small = lit≤ tt;
}

pub row_4_listed : has_row plain 4 ≡ true
row_4_listed = (rows_near plain 1 (pos 10) 5 plain_edge).inside 4 (lit≤ tt)

pub row_9_not_listed : has_row plain 9 ≡ true → ⊥
row_9_not_listed t = le→leb 8 7 ((rows_near plain 1 (pos 10) 5 plain_edge).outside 9 t)

-- cx 7, d -0, which is at least 0: column 9 is too far
abbrev point : Segment
point = spot (fin false 7 (pos 0)) nan (fin true 0 (pos 0))

point_edge : Edge (fin false 7 (pos 0)) (fin true 0 (pos 0)) 0 (pos 7) 0
point_edge = record {
  centre_is = record { sign = false; size = 7; value = (refl, refl); is = refl };
  distance_is = record { sign = true; size = 0; value = (refl, refl); is = refl };
  small = lit≤ tt;
}

pub column_9_not_listed : has_column point 9 ≡ true → ⊥
column_9_not_listed t = le→leb 2 1 ((columns_near point 0 (pos 7) 0 point_edge (le_z_yes tt)).outside 9 t)

-- ---- computed

-- rows 2 and 8 of the first are both d + 1/2 from its centre: row 8 is listed, though it is farther than d, and row 2 is not
pub rows_2_and_8 : (apart 1 (pos 10) 2 ≡ 5 + 1) × (apart 1 (pos 10) 8 ≡ 5 + 1)
rows_2_and_8 = (refl, refl)

pub row_2_not_listed : has_row plain 2 ≡ false
unfolding add sub whole_by to_signed
row_2_not_listed = as_spline_rs.rows plain 2

pub row_8_listed : has_row plain 8 ≡ true
unfolding add sub whole_by to_signed
row_8_listed = as_spline_rs.rows plain 8

-- cy 2^21, d 2^20 + 3/8, in eighths: the last row is d + 5/8 from the centre, and none can be farther
abbrev long : Segment
long = spot nan (fin false 1 (pos 21)) (fin false 8388611 (negsuc 2))

pub farthest : apart 3 (pos (2 ^ 24)) 3145729 ≡ 8388611 + 5
farthest = refl

pub farthest_listed : has_row long 3145729 ≡ true
unfolding add sub whole_by to_signed
farthest_listed = as_spline_rs.rows long 3145729

-- cy 2^21 + 4, d 3 + 5/8, in eighths: the row before the first is d + 3/8 from the centre, and none that is nearer is left out
abbrev short : Segment
short = spot nan (fin false 524289 (pos 2)) (fin false 29 (negsuc 2))

pub nearest : apart 3 (pos (2 ^ 24 + 32)) 2097152 ≡ 29 + 3
nearest = refl

pub nearest_not_listed : has_row short 2097152 ≡ false
unfolding add sub whole_by to_signed
nearest_not_listed = as_spline_rs.rows short 2097152

-- cx -5, d 2: column 0 is listed, d + 3 from the centre, so columns need their premise
abbrev left : Segment
left = spot (fin true 5 (pos 0)) nan (fin false 1 (pos 1))

pub column_0_away : apart 0 (negsuc 4) 0 ≡ 2 + 3
column_0_away = refl

pub column_0_listed : has_column left 0 ≡ true
unfolding add sub whole_by to_unsigned
column_0_listed = as_spline_rs.columns left 0

-- Assumes nothing.
