-- What is still to be summed, from entry to entry.
use mathlib.Core.Path.{◌≡◌}
use Prim.Native.Nat.{◌≤◌}
use lib.Seq.{slice}
use Rattle.desks.specs.Desks.{sight_in}
use Rattle.band_sums.specs.Steps.{sum_over}
use Rattle.band_sums.proofs.sum_entries.Given as goal

abbrev pub invariant-loop-j : goal.invariant-loop-j
invariant-loop-j l =
    let sums = sum_over l.table.segments.now l.table.segment_count (sight_in l.sight) l.width in
    (l.total.entries ≤ l.j) × (sums l.initial.total (slice l.b l.e l.table.entries.now) ≡ sums l.total (slice l.j l.e l.table.entries.now))
