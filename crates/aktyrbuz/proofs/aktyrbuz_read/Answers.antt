-- `aktyrbuz_read` meets its contract: what `read` leaves, and its answer told in five numbers.
use Rattle.aktyrbuz.proofs.Numbers.{read_exported}
use Rattle.aktyrbuz.proofs.aktyrbuz_read.Goals as goal

pub returns : goal.returns
returns c =
    let r = c.read in
    read_exported _ _ _ _ _ _ _ r.ensures c.tell.ensures.number c.tell.ensures.five
