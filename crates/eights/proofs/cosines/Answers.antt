use mathlib.Core.Path.{refl}
use native.Mathlib.Omega.{arith}
use Rattle.dequantize.proofs.Tables.{filling_none, filling_more, filling_all}
use Rattle.eights.proofs.Feeding.{cosine_is}
use Rattle.eights.proofs.cosines.Goals as goal

pub loop-j-init : goal.loop-j-init
loop-j-init c = (c.dct_multipliers-multipliers.ensures, refl, omega arith, filling_none _ 8 _ refl)

pub loop-j-preserved : goal.loop-j-preserved
loop-j-preserved c =
    let l = c.loop-j in
    let v = l.invariant in
    (v.0, v.1, v.2, filling_more _ l.j v.3 (omega arith) (cosine_is _ _ _ _ l.j v.0 v.1 (omega arith) c.fast_cos.ensures))

pub returns : goal.returns
returns c = let l = c.loop-j in filling_all _ l.j l.invariant.3 (omega arith)
