-- What is still to be joined, from entry to entry.
use mathlib.Core.Path.{◌≡◌}
use lib.Seq.{slice}
use Rattle.desks.specs.Desks.{sight_in, shown}
use Rattle.checks.specs.Tables.{table_in}
use Rattle.checks.specs.Checks.{EntriesFit}
use Rattle.hull.specs.Reach.{none}
use Rattle.hull.proofs.Hulls.{joined_over}
use Rattle.hull.proofs.reach_entries.Given as goal

abbrev pub invariant-loop-j : goal.invariant-loop-j
invariant-loop-j l =
    let s = sight_in l.sight in
    let segments = l.table.segments.now in
    EntriesFit (table_in l.table) s l.j l.e
    × (joined_over segments l.width l.found (shown s (slice l.j l.e l.table.entries.now)) ≡ joined_over segments l.width none (shown s (slice l.b l.e l.table.entries.now)))
