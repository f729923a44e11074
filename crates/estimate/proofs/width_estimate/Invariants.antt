-- The invariant: i terms are in the sum.
use Prim.Native.Nat.{◌≤◌}
use lib.ListN.{length}
use Rattle.estimate.specs.Estimate.{to_u64, width_at}
use Rattle.estimate.proofs.Sums.{Summed}
use Rattle.estimate.proofs.width_estimate.Given as goal

abbrev pub invariant-loop-i : goal.invariant-loop-i
invariant-loop-i l = (128 ≤ length l.c) × Summed (width_at (λ x. to_u64 x) l.c l.quant l.most l.log) 32 l.sum l.i
