use Rattle.std.proofs.Common.{refl, arith}
use Rattle.dequantize.specs.Coefficients.{gained_of}
use Rattle.dequantize.proofs.Tables.{filling_none, filling_more, filling_all}
use Rattle.dequantize.proofs.coefficients.gained.Goals as goal

pub loop-i-init : goal.loop-i-init
loop-i-init c = (omega arith, omega arith, filling_none _ 32 _ refl)

pub loop-i-preserved : goal.loop-i-preserved
loop-i-preserved c =
    let l = c.loop-i in
    (l.invariant.0, l.invariant.1, filling_more _ l.i l.invariant.2 c.loop-i-test.true refl)

pub returns : goal.returns
unfolding gained_of
returns c = let l = c.loop-i in filling_all _ l.i l.invariant.2 c.loop-i-test.false
