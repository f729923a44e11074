-- The entries from i on decide, from turn to turn.
use mathlib.Core.Path.{◌≡◌}
use mathlib.Core.Bool.{◌&&◌}
use lib.ListN.{length}
use lib.Seq.{slice}
use Rattle.desks.specs.Desks.{all_owned}
use Rattle.checks.specs.Checks.{all_below}
use Rattle.checks.proofs.all_owned.Given as goal

abbrev pub invariant-loop-i : goal.invariant-loop-i
invariant-loop-i l =
    let t = l.table in
    let s = l.sight in
    (all_below t.segment_count l.listed && all_owned s.owners.now s.splines l.listed)
    ≡ (all_below t.segment_count (slice l.i-index (length l.listed) l.listed) && all_owned s.owners.now s.splines (slice l.i-index (length l.listed) l.listed))
