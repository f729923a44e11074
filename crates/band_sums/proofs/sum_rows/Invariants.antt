-- What is still to be summed, from row to row. Each row begins where the one before it ends, so the count stays below the row's start.
use mathlib.Core.Path.{◌≡◌}
use Prim.Native.Nat.{◌-◌, ◌≤◌}
use lib.ListN.{get_or}
use Rattle.desks.specs.Desks.{sight_in}
use Rattle.checks.specs.Tables.{table_in}
use Rattle.band_sums.specs.Steps.{nothing, sum_rows}
use Rattle.band_sums.proofs.sum_rows.Given as goal

abbrev pub invariant-loop-at : goal.invariant-loop-at
invariant-loop-at l =
    let sums = sum_rows (table_in l.table) (sight_in l.sight) l.width in
    (l.sum.entries ≤ get_or l.table.row_starts.now l.at 0) × (sums nothing l.y (l.end - l.y) ≡ sums l.sum l.at (l.end - l.at))
