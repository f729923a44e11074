use borrow.Author.Rules.{rules}
use Prim.Native.Nat.{◌≤◌, ◌<◌}
use native.Mathlib.Omega.{arith}
use lib.ListN.{length}
use Rattle.frame.proofs.Laws.{sum_more, sum_done}
use Rattle.frame.proofs.checksum.Goals as goal

pub loop-word-preserved : goal.loop-word-preserved
loop-word-preserved c = let h : c.loop-word.word-index < length c.args.words.now = omega arith in (search rules, sum_more c.args.words.now c.loop-word.sum c.loop-word.word-index h c.from.ensures c.loop-word.invariant.1)

pub returns : goal.returns
returns c = let h : length c.args.words.now ≤ c.loop-word.word-index = omega arith in sum_done c.args.words.now c.loop-word.sum c.loop-word.word-index h c.loop-word.invariant.1
