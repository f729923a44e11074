-- `curve::Window::time`: a number below 16 is exact in f32, and the rest is the definition.
use lib.Dec.{le→leb}
use lib.Ieee.{in_float}
use native.Mathlib.Omega.{arith}
use Rattle.curve.specs.Windows.{time}
use Rattle.curve.proofs.Window.time.Goals as goal

pub int_to_float-result : goal.int_to_float-result
unfolding in_float
int_to_float-result c = le→leb c.args.i 16777216 (omega arith)

pub returns : goal.returns
unfolding time
returns c = cc
