-- `first_unfit`: what is left to scan decides, from turn to turn.
use mathlib.Core.Path.{◌≡◌}
use Prim.Native.Nat.{◌-◌}
use Rattle.rows.specs.Rows.{in_row}
use Rattle.makers.specs.Check.{wrong_from}
use Rattle.makers.specs.Steps.{row_fits}
use Rattle.makers.proofs.first_unfit.Given as goal

abbrev pub invariant-loop-y : goal.invariant-loop-y
invariant-loop-y l =
    let fits = row_fits (in_row l.table.segments.now) l.table.segment_count l.table.row_starts.now l.table.entries.now l.table.entry_count in
    wrong_from fits 0 l.height ≡ wrong_from fits l.y (l.height - l.y)
