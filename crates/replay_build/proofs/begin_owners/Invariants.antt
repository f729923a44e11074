-- The first i owners are their words.
use Prim.Native.Nat.{ℕ}
use lib.ListN.{get_or}
use Rattle.stored.proofs.Begun.{Begun}
use Rattle.replay_build.proofs.begin_owners.Given as goal

abbrev pub invariant-loop-i : goal.invariant-loop-i
invariant-loop-i l = Begun 0 (λ (k : ℕ). get_or l.words k 0) l.owners l.words l.i
