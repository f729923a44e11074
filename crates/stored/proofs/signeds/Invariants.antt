-- The first i cells are set.
use lib.ListN.{length}
use Rattle.dequantize.proofs.Tables.{Filling}
use Rattle.stored.specs.Stored.{signed_in}
use Rattle.stored.proofs.signeds.Given as goal

abbrev pub invariant-loop-i : goal.invariant-loop-i
invariant-loop-i l = Filling (signed_in l.words) (length l.initial.out) l.out l.i
