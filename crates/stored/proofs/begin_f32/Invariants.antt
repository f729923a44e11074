-- The first i values are those of their words.
use lib.Ieee.{nan}
use Rattle.stored.specs.Stored.{float_in}
use Rattle.stored.proofs.Begun.{Begun}
use Rattle.stored.proofs.begin_f32.Given as goal

abbrev pub invariant-loop-i : goal.invariant-loop-i
invariant-loop-i l = Begun nan (float_in l.words) l.values l.words l.i
