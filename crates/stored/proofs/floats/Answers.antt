use mathlib.Core.Path.{refl}
use native.Mathlib.Omega.{arith}
use Rattle.dequantize.proofs.Tables.{filling_none, filling_more, filling_all}
use Rattle.stored.proofs.floats.Goals as goal

pub loop-i-init : goal.loop-i-init
loop-i-init c = filling_none _ _ _ refl

pub loop-i-preserved : goal.loop-i-preserved
loop-i-preserved c = filling_more _ c.loop-i.i c.loop-i.invariant (omega (arith, c.loop-i.invariant.size)) c.float_at.ensures

pub returns : goal.returns
returns c = filling_all _ c.loop-i.i c.loop-i.invariant (omega (arith, c.loop-i.invariant.size))
