-- `aktyrbuz_points_write` meets its contract: what `points_write` leaves, and its answer told in five numbers.
use Rattle.aktyrbuz.proofs.Numbers.{write_exported}
use Rattle.aktyrbuz.proofs.polylines.aktyrbuz_points_write.Goals as goal

pub returns : goal.returns
returns c = write_exported _ _ _ _ c.points_write.ensures c.tell.ensures.number c.tell.ensures.five
