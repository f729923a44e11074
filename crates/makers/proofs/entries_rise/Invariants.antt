-- `entries_rise`: the entries from i on decide, from turn to turn.
use mathlib.Core.Path.{◌≡◌}
use lib.ListN.{length}
use lib.Seq.{slice}
use Rattle.rows.specs.Rows.{in_row}
use Rattle.makers.specs.Steps.{rising}
use Rattle.makers.proofs.entries_rise.Given as goal

abbrev pub invariant-loop-i : goal.invariant-loop-i
invariant-loop-i l =
    let t = l.table in
    rising (λ i. in_row t.segments.now i l.y) t.segment_count 0 l.listed ≡ rising (λ i. in_row t.segments.now i l.y) t.segment_count l.least (slice l.i-index (length l.listed) l.listed)
