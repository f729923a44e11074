use native.Mathlib.Omega.{arith}
use Rattle.decimal.proofs.Backs.{back_begin, back_some, back_more, back_end}
use Rattle.decimal.proofs.put_back.Goals as goal

pub loop-left-init : goal.loop-left-init
loop-left-init c = back_begin _ _ _ c.requires

pub overflow_sub-i : goal.overflow_sub-i
overflow_sub-i c = back_some c.loop-left.invariant

pub loop-left-smaller : goal.loop-left-smaller
loop-left-smaller c = omega (arith, c.loop-left-test.true)

pub loop-left-preserved : goal.loop-left-preserved
loop-left-preserved c = back_more c.loop-left.invariant c.loop-left-test.true _ _ c.digit_byte.ensures c.put.ensures

pub overflow_sub-i-2 : goal.overflow_sub-i-2
overflow_sub-i-2 c = back_some c.loop-left.invariant

pub digit_byte-requires-2 : goal.digit_byte-requires-2
digit_byte-requires-2 c = omega (arith, c.loop-left-test.false)

pub returns : goal.returns
returns c = back_end c.loop-left.invariant (omega (arith, c.loop-left-test.false)) _ _ c.digit_byte-2.ensures c.put-2.ensures
