-- `polyline_scan::store` meets its contract: a later pair is near the place before it.
use Rattle.polyline_pairs.proofs.Numbers.{small_near, valid_small, valid_near, minus_near}
use Rattle.polyline_scan.proofs.store.Goals as goal

pub double_delta-d-requires : goal.double_delta-d-requires
double_delta-d-requires c =
    let t = rw c.in-Some.is at c.requires.0 in
    let q = c.requires.1 in
    (small_near _ q, valid_near _ t.held.1, minus_near _ _ q (valid_small _ t.held.1), valid_near _ t.held.0)
