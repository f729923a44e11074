-- `decimal::width` meets its contract: the digits counted and those of what is left are one more than all.
use mathlib.Core.Path.{◌≡◌}
use Prim.Native.Nat.{◌+◌, ◌≤◌, ◌<◌, ◌^◌}
use lib.ListN.{length}
use Rattle.polyline.specs.Write.{digits_of}
use Rattle.decimal.proofs.width.Given as goal

abbrev pub invariant-loop-left : goal.invariant-loop-left
invariant-loop-left l = (l.w + length (digits_of l.left) ≡ length (digits_of l.n) + 1) × (l.left ≤ l.n) × (l.n < 2 ^ 32)

abbrev pub decreases-loop-left : goal.decreases-loop-left
decreases-loop-left l = l.left
