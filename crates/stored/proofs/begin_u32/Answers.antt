use native.Mathlib.Omega.{arith}
use Rattle.stored.proofs.Begun.{no_true, begun_none, begun_more, begun_long}
use Rattle.stored.proofs.begin_u32.Goals as goal

pub loop-i-init : goal.loop-i-init
loop-i-init c = begun_none _ _ _ _

pub returns-then-values-i : goal.returns-then-values-i
returns-then-values-i c = λ e. absurd (no_true e)

pub returns-then-values-i-2 : goal.returns-then-values-i-2
returns-then-values-i-2 c = λ e. absurd (no_true e)

pub loop-i-preserved : goal.loop-i-preserved
loop-i-preserved c =
    let l = c.loop-i in
    begun_more _ _ _ _ l.i l.invariant (omega arith) (omega arith) c.if-values-i-2.false

pub returns : goal.returns
returns c =
    let l = c.loop-i in
    λ e. record { long = begun_long _ _ _ _ l.i l.invariant (omega arith); same = λ k h. l.invariant.same k (omega arith) }
