-- A word past the last is 0.
use mathlib.Core.Path.{sym, ap}
use lib.ListN.{get_or-eq_default}
use lib.Ieee.{binary32, of_bits}
use Rattle.stored.proofs.float_at.Goals as goal

pub returns-else-i-words : goal.returns-else-i-words
returns-else-i-words c = ap (of_bits binary32) (sym (get_or-eq_default c.args.words.now 0 c.if-i-words.false))
