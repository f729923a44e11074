use Rattle.std.proofs.Common.{refl}
use Rattle.dequantize.specs.Coefficients.{coefficient_row}
use Rattle.dequantize.proofs.Tables.{filling_none, filling_more, filling_all}
use Rattle.dequantize.proofs.coefficients.row.Goals as goal

pub loop-i-init : goal.loop-i-init
loop-i-init c = filling_none _ 32 _ refl

pub loop-i-preserved : goal.loop-i-preserved
loop-i-preserved c = filling_more _ c.loop-i.i c.loop-i.invariant c.loop-i-test.true c.coefficient.ensures

pub returns : goal.returns
unfolding coefficient_row
returns c = filling_all _ c.loop-i.i c.loop-i.invariant c.loop-i-test.false
