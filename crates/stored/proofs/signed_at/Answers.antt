-- A word past the last is 0.
use mathlib.Core.Path.{sym, ap}
use lib.ListN.{get_or-eq_default}
use mir.Syntax.{w32}
use mir.Val.{to_z}
use Rattle.stored.proofs.signed_at.Goals as goal

pub returns-else-i-words : goal.returns-else-i-words
returns-else-i-words c = ap (to_z w32) (sym (get_or-eq_default c.args.words.now 0 c.if-i-words.false))
