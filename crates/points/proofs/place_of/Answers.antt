-- `place_of`: an index of a walk is exact in f32.
use native.Mathlib.Omega.{arith}
use lib.Dec.{le→leb}
use lib.Ieee.{in_float}
use Rattle.points.specs.Points.{curve_time}
use Rattle.points.proofs.place_of.Goals as goal

pub int_to_float-i : goal.int_to_float-i
unfolding in_float
int_to_float-i c = le→leb c.args.i 16777216 (omega arith)

pub returns : goal.returns
unfolding curve_time
returns c = rw c.min.ensures
