use native.Mathlib.Omega.{arith}
use borrow.Author.Rules.{rules}
use Rattle.trace_laws.proofs.Lent.{signed_more, signed_all}
use Rattle.trace_laws.proofs.lend_signed.Goals as goal

pub loop-i-init : goal.loop-i-init
loop-i-init c = tt

pub loop-i-preserved : goal.loop-i-preserved
loop-i-preserved c =
    let a = c.args in
    let v = c.loop-i in
    signed_more a.numbers.now v.i (omega arith) v.invariant (search rules)

pub returns : goal.returns
returns c = signed_all c.args.numbers.now c.loop-i.i (omega arith) c.loop-i.invariant
