-- `aktyrbuz_draw` meets its contract: what `draw` leaves, and its answer told in five numbers.
use Rattle.aktyrbuz.proofs.Numbers.{draw_exported}
use Rattle.aktyrbuz.proofs.aktyrbuz_draw.Goals as goal

pub returns : goal.returns
returns c =
    let d = c.draw in
    draw_exported _ _ _ _ d.ensures c.tell.ensures.number c.tell.ensures.five
