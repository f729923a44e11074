-- `aktyrbuz_reach` meets its contract: the answer of `reach`, told in five numbers.
use Rattle.aktyrbuz.proofs.Numbers.{reach_exported}
use Rattle.aktyrbuz.proofs.aktyrbuz_reach.Goals as goal

pub returns : goal.returns
returns c =
    reach_exported _ _ _ c.reach.ensures c.tell.ensures.number c.tell.ensures.five
