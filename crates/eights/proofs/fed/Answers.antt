use native.Mathlib.Omega.{arith}
use Rattle.eights.proofs.Feeding.{fed_first, fed_next, fed_more, fed_all}
use Rattle.eights.proofs.fed.Goals as goal
use Rattle.eights.proofs.fed.Goals.{then-from-eq0, else-from-eq0}

pub loop-j-init : goal.loop-j-init
loop-j-init c =
    let p = c.requires in
    elim c.if-from-eq0.branch [
      | then-from-eq0 h ↦ fed_first _ _ _ _ p.0 p.1 h.if-from-eq0.true h.s-is
      | else-from-eq0 h ↦ fed_next _ _ _ _ p.0 p.1 h.if-from-eq0.false p.2 h.s-is
    ]

pub loop-j-preserved : goal.loop-j-preserved
loop-j-preserved c = let l = c.loop-j in fed_more l.j l.invariant (omega arith)

pub returns : goal.returns
returns c = let l = c.loop-j in fed_all l.j l.invariant (omega arith)
