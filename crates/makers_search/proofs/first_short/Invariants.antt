-- `first_short`: nothing lacks before the low row, and something before the high one.
use Prim.Native.Nat.{◌-◌, ◌≤◌, ◌<◌}
use lib.ListN.{get_or}
use Rattle.rows.specs.Rows.{start_of, in_row}
use Rattle.makers_search.proofs.first_short.Given as goal

abbrev pub invariant-loop-low : goal.invariant-loop-low
invariant-loop-low l =
    (l.low < l.high)
    × (l.high ≤ l.bad)
    × (start_of (in_row l.table.segments.now) l.table.segment_count l.low ≤ get_or l.table.row_starts.now l.low 0)
    × (get_or l.table.row_starts.now l.high 0 < start_of (in_row l.table.segments.now) l.table.segment_count l.high)

abbrev pub decreases-loop-low : goal.decreases-loop-low
decreases-loop-low l = l.high - l.low
