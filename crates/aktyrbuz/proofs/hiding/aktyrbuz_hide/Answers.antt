-- `aktyrbuz_hide` meets its contract: what `hide` leaves, and its answer told in five numbers.
use Rattle.aktyrbuz.proofs.Numbers.{hide_exported}
use Rattle.aktyrbuz.proofs.hiding.aktyrbuz_hide.Goals as goal

pub returns : goal.returns
returns c = hide_exported _ _ _ _ c.hide.ensures c.tell.ensures.number c.tell.ensures.five
