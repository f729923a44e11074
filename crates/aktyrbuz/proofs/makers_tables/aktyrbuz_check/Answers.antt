-- `aktyrbuz_check` meets its contract: the answer of `check`, told in five numbers.
use Rattle.aktyrbuz.proofs.MakersNumbers.{check_exported}
use Rattle.aktyrbuz.proofs.makers_tables.aktyrbuz_check.Goals as goal

pub returns : goal.returns
returns c = check_exported _ _ _ c.check.ensures c.tell.ensures.number c.tell.ensures.five
