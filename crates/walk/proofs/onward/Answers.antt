use mathlib.Core.Path.{refl, sym, ◌∙◌}
use native.Mathlib.Omega.{arith}
use Rattle.walk.specs.Walk.{stretch_of}
use Rattle.walk.proofs.Reaches.{reach_end, reach_emit, reach_pass}
use Rattle.walk.proofs.onward.Goals as goal

pub loop-i-init : goal.loop-i-init
unfolding stretch_of
loop-i-init c = refl

pub returns-then-walked-l : goal.returns-then-walked-l
returns-then-walked-l c =
    let l = c.loop-i in
    sym
    (l.invariant
    ∙ reach_emit _ _ l.i l.previous l.walked c.point_at-q.ensures c.sub-delta.ensures
    c.distance-l.ensures (omega arith) c.mul.ensures c.add.ensures c.if-walked-l.true)

pub loop-i-preserved : goal.loop-i-preserved
loop-i-preserved c =
    let l = c.loop-i in
    l.invariant ∙ reach_pass _ _ l.i l.previous l.walked c.point_at-q.ensures c.sub-delta.ensures c.distance-l.ensures (omega arith) c.if-walked-l.false

pub returns : goal.returns
returns c =
    let l = c.loop-i in
    sym (l.invariant ∙ reach_end _ _ l.i l.previous l.walked (omega arith))
