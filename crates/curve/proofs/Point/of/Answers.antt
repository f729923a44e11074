-- `curve::Point::of`: a coordinate in the range is an i32 as it stands, and exact in f32.
use mathlib.Core.Path.{◌≡◌}
use mathlib.Core.Bool.{true}
use Prim.Native.Nat.{◌<◌}
use native.Mathlib.Omega.{arith}
use lib.Dec.{T, le→leb, lt→ltb}
use lib.IntN.{ℤ, pos, negsuc}
use lib.Signed.{mag}
use lib.Ieee.{binary32, in_float}
use mir.Syntax.{w32}
use mir.Val.{to_z, of_z}
use mir.Facts.{to_z-of_z}
use Rattle.control_points.specs.ControlPoints.{in_range}
use Rattle.control_points.proofs.Pairs.{in_range_mag, point_range}
use Rattle.curve.proofs.Point.of.Goals as goal

as-it-stands : (z : ℤ) → in_range z ≡ true → to_z w32 (of_z w32 z) ≡ z
as-it-stands z h = to_z-of_z {w = w32} {z = z} (record { sfits = omega (arith, in_range_mag z h) })

castable : (z : ℤ) → mag z < 8388608 → T (in_float binary32 z)
unfolding in_float
castable (pos n) h = le→leb n 16777216 (omega arith)
castable (negsuc n) h = lt→ltb n 16777216 (omega arith)

exact : (z : ℤ) → in_range z ≡ true → T (in_float binary32 (to_z w32 (of_z w32 z)))
exact z h = rw (as-it-stands z h) (castable z (in_range_mag z h))

pub int_to_float-result : goal.int_to_float-result
int_to_float-result c = exact c.args.p.x (point_range c.args.p c.requires).0

pub int_to_float-result-2 : goal.int_to_float-result-2
int_to_float-result-2 c = exact c.args.p.y (point_range c.args.p c.requires).1

pub returns : goal.returns
returns c =
    let h = point_range c.args.p c.requires in
    rw (as-it-stands c.args.p.x h.0, as-it-stands c.args.p.y h.1)
