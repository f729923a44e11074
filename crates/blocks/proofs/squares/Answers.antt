use native.Mathlib.Omega.{arith}
use lib.ListN.{length-set}
use Rattle.shade.proofs.Edits.{edit_none, edit_until, stored}
use Rattle.blocks.proofs.squares.Goals as goal

pub loop-k-init : goal.loop-k-init
loop-k-init c = (omega arith, omega arith, edit_none _ _)

pub loop-k-preserved : goal.loop-k-preserved
loop-k-preserved c =
    let l = c.loop-k in
    let g = c.float_of.ensures in
    (simp length-set l.invariant.0, l.invariant.1, stored _ _ _ l.k _ (omega arith) l.invariant.2 (rw g))

pub returns : goal.returns
returns c =
    let l = c.loop-k in
    edit_until _ _ _ (omega arith) (omega arith) l.invariant.2
