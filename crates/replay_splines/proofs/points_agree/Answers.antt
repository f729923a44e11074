use native.Mathlib.Omega.{arith}
use Rattle.replay_splines.proofs.Agreeing.{led_length, led_none, led_more, led_all}
use borrow.Author.Rules.{rules}
use Rattle.replay_splines.proofs.points_agree.Goals as goal

pub loop-k-init : goal.loop-k-init
loop-k-init c = led_none _ _ _ _

pub slice_bounds-leads_to-end : goal.slice_bounds-leads_to-end
slice_bounds-leads_to-end c =
    let l = c.loop-k in
    let t = led_length c.args.deltas.now l.k c.if-deltas-k.false in
    search (rules, t)

pub loop-k-preserved : goal.loop-k-preserved
loop-k-preserved c =
    let l = c.loop-k in
    led_more _ _ _ _ l.k l.invariant (omega arith) (c.leads_to.ensures c.if-not-leads_to.false)

pub returns : goal.returns
returns c = λ e. led_all _ _ _ _ c.loop-k.k c.loop-k.invariant (omega arith)
