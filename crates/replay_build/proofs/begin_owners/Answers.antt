use mathlib.Core.Path.{◌∙◌}
use native.Mathlib.Omega.{arith}
use Rattle.stored.proofs.Begun.{begun_none, begun_more, begun_long}
use Rattle.replay_build.proofs.begin_owners.Goals as goal

pub loop-i-init : goal.loop-i-init
loop-i-init c = begun_none _ _ _ _

pub loop-i-preserved : goal.loop-i-preserved
loop-i-preserved c =
    let l = c.loop-i in
    begun_more _ _ _ _ l.i l.invariant (omega arith) (omega arith) (c.if-owners-i-2.false ∙ c.from.ensures)

pub returns : goal.returns
returns c =
    let l = c.loop-i in
    λ e. record { long = begun_long _ _ _ _ l.i l.invariant (omega arith); same = λ k h. l.invariant.same k (omega arith) }
