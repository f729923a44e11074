-- The invariant: i terms are in the sum.
use Prim.Native.Nat.{◌+◌, ◌≤◌}
use lib.ListN.{length}
use Rattle.estimate.specs.Estimate.{to_u64, color_at}
use Rattle.estimate.proofs.Sums.{Summed}
use Rattle.estimate.proofs.color.Given as goal

abbrev pub invariant-loop-i : goal.invariant-loop-i
invariant-loop-i l = (l.from + 32 ≤ length l.c) × Summed (color_at (λ x. to_u64 x) l.c l.from l.quant) 32 l.sum l.i
