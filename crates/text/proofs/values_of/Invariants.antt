-- `text::values_of` meets its contract: before each byte, what is stored and what is left come to the whole text.
use lib.ListN.{length}
use Rattle.text.proofs.Reading.{Going}
use Rattle.text.proofs.values_of.Given as goal

abbrev pub invariant-loop-i : goal.invariant-loop-i
invariant-loop-i l = Going (length l.initial.values) l.text l.values l.inside l.held l.i
