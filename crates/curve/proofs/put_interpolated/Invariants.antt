-- `curve::put_interpolated`: the invariant is that the first i points are stored.
use mathlib.Core.Path.{◌≡◌}
use lib.ListN.{length}
use lib.Seq.{sets}
use Rattle.curve.specs.Curve.{interpolated, flat}
use Rattle.curve.proofs.put_interpolated.Given as goal

abbrev pub invariant-loop-i : goal.invariant-loop-i
invariant-loop-i l = (length l.out ≡ length l.initial.out) × (l.out ≡ sets l.initial.out l.k (flat (interpolated l.w l.i)))
