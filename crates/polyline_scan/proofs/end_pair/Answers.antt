-- `polyline_scan::end_pair` meets its contract: the pair is judged, and its double delta stored where it passes.
use Rattle.polyline_pairs.proofs.Numbers.{small_near, spot_small}
use Rattle.polyline_scan.proofs.end_pair.Goals as goal

pub judge_pair-requires : goal.judge_pair-requires
judge_pair-requires c = (c.requires.0.track, rw c.spot-s.ensures (small_near _ (spot_small _ c.requires.0.figure)))

pub store-requires : goal.store-requires
store-requires c = (c.requires.0.track, rw c.spot-s.ensures (spot_small _ c.requires.0.figure), c.requires.1)
