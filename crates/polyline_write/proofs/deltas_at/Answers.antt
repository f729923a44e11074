use mathlib.Core.Path.{◌≡◌, ap, ◌∙◌}
use Prim.Native.Nat.{ℕ, ◌*◌}
use native.Mathlib.Omega.{arith}
use lib.ListN.{take}
use Rattle.shape.specs.Shape.{points_of}
use Rattle.polyline_write.proofs.Answers.{at_more, at-fits}
use Rattle.polyline_write.proofs.deltas_at.Goals as goal

pub overflow_mul-at : goal.overflow_mul-at
overflow_mul-at c = omega (arith, at-fits c.args.counts.now c.loop-i.i (omega arith))

pub overflow_add-at : goal.overflow_add-at
overflow_add-at c = omega (arith, at-fits c.args.counts.now c.loop-i.i (omega arith))

pub loop-i-preserved : goal.loop-i-preserved
loop-i-preserved c = rw c.loop-i.invariant (at_more _ c.loop-i.i (omega arith))

pub returns : goal.returns
returns c = let e : c.loop-i.i ≡ c.args.k = omega arith in c.loop-i.invariant ∙ ap (λ (j : ℕ). 2 * points_of (take j c.args.counts.now)) e
