-- `pixels::floats`: pixel after pixel is stored behind those before it.
use mathlib.Core.Path.{◌≡◌}
use Prim.Native.Nat.{◌-◌, ◌*◌}
use lib.ListN.{length}
use Rattle.buffers.proofs.Filling.{Filled}
use Rattle.pixels.specs.Pixels.{at, each, pixels_of, floats_of}
use Rattle.pixels.proofs.floats.Given as goal

abbrev pub invariant-loop-i : goal.invariant-loop-i
invariant-loop-i l = (length l.out ≡ length l.initial.out) × Filled (pixels_of floats_of l.x l.y l.b l.n) l.initial.out l.out (each (at floats_of l.x l.y l.b) (l.n - l.i) l.i) (12 * l.i)
