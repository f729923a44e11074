use mathlib.Core.Path.{◌≡◌}
use native.Mathlib.Omega.{arith}
use Rattle.estimate.specs.Estimate.{color_by}
use Rattle.estimate.proofs.Sums.{summed_none, summed_more, summed_all}
use Rattle.estimate.proofs.color.Goals as goal

pub loop-i-init : goal.loop-i-init
loop-i-init c = (c.requires, summed_none _ 32)

pub loop-i-preserved : goal.loop-i-preserved
loop-i-preserved c =
    let l = c.loop-i in
    let e : c.whole.result ≡ _ = rw c.share.ensures at c.whole.ensures in
    (l.invariant.0, summed_more _ l.i l.invariant.1 (omega arith) e c.saturating_add-sum.ensures)

pub returns : goal.returns
unfolding color_by
returns c = let l = c.loop-i in summed_all _ l.i l.invariant.1 c.loop-i-test.false
