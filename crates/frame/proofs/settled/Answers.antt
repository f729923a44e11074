-- `frame::settled` meets its contract: each answer is that of the tests that led to it.
use native.Mathlib.Omega.{arith}
use lib.ListN.{length-take}
use Rattle.frame.proofs.Laws.{settled_long, settled_whole, settled_damaged}
use Rattle.frame.proofs.settled.Goals as goal

pub returns-then-end-last : goal.returns-then-end-last
returns-then-end-last c = settled_long _ _ c.if-end-last.true

pub slice_bounds-checksum-end : goal.slice_bounds-checksum-end
slice_bounds-checksum-end c = simp length-take (omega arith)

pub returns-then-sum-words : goal.returns-then-sum-words
returns-then-sum-words c = settled_whole _ _ c.if-end-last.false c.checksum-sum.ensures c.if-sum-words.true

pub returns-else-sum-words : goal.returns-else-sum-words
returns-else-sum-words c = settled_damaged _ _ c.if-end-last.false c.checksum-sum.ensures c.if-sum-words.false
