use native.Mathlib.Omega.{arith}
use Rattle.polyline.proofs.Digits.{length_small, length_large, length_most}
use Rattle.decimal.proofs.width.Goals as goal

pub loop-left-init : goal.loop-left-init
loop-left-init c = (omega arith, omega arith, omega arith)

pub overflow_add-w : goal.overflow_add-w
overflow_add-w c = let n = c.args.n in omega (arith, length_most 9 n (omega arith), c.loop-left.invariant.0)

pub loop-left-preserved : goal.loop-left-preserved
loop-left-preserved c = (omega (arith, c.loop-left.invariant.0, length_large c.loop-left.left c.loop-left-test.true), omega arith, omega arith)

pub returns : goal.returns
returns c = omega (arith, c.loop-left.invariant.0, length_small c.loop-left.left c.loop-left-test.false)
