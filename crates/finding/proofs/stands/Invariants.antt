-- `finding::stands`: what is left of the bytes and of the word decides.
use lib.ListN.{length, take, drop}
use Rattle.finding.proofs.Sameness.{SameLeft}
use Rattle.finding.proofs.stands.Given as goal

abbrev pub invariant-loop-k : goal.invariant-loop-k
invariant-loop-k l = SameLeft (take (length l.word) (drop l.at l.bytes)) l.word l.k
