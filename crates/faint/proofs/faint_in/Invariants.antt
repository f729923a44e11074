-- `faint_in`: the first i segments are counted.
use mathlib.Core.Path.{◌≡◌}
use Prim.Native.Nat.{◌*◌, ◌^◌, ◌≤◌}
use lib.ListN.{length}
use Rattle.faint.specs.Faint.{faint_in}
use Rattle.faint.proofs.faint_in.Given as goal

abbrev pub invariant-loop-i : goal.invariant-loop-i
invariant-loop-i l = (8 * l.count ≤ length l.segments) × (l.count ≤ 2 ^ 24) × (l.found ≤ l.i) × (l.found ≡ faint_in l.segments l.i)
