use Prim.Native.Nat.{◌<◌}
use native.Mathlib.Omega.{arith}
use lib.ListN.{length}
use borrow.Author.Rules.{rules}
use borrow.Author.Count.{below_none}
use Rattle.io.proofs.Counting.{prefix_len_of_le}
use Rattle.frame.proofs.Laws.{words_more}
use Rattle.frame.proofs.words_of.Goals as goal

pub loop-i-init : goal.loop-i-init
loop-i-init c = (search rules, below_none _)

pub loop-i-preserved : goal.loop-i-preserved
loop-i-preserved c = let h : c.loop-i.i < length c.loop-i.words = omega arith in (search rules, words_more c.args.bytes.now c.loop-i.words c.loop-i.i h c.word.ensures c.loop-i.invariant.1)

pub returns : goal.returns
returns c = record { words = record { count = search rules; kept = c.loop-i.invariant.0; each = λ k below. c.loop-i.invariant.1 k (omega arith) }; prefix_len = prefix_len_of_le _ _ (omega arith) }
