-- The cells below k of each channel have the segment added, from turn to turn; one law turns each channel.
use mathlib.Core.Path.{◌≡◌}
use lib.ListN.{length, get_or}
use lib.Ieee.{nan}
use Rattle.shade.specs.Edit.{edit, first_cells}
use Rattle.shade.specs.Shade.{shaded_by_intensity}
use Rattle.shade.proofs.add.Given as goal

abbrev pub invariant-loop-k : goal.invariant-loop-k
invariant-loop-k l =
    (length l.r0 ≡ length l.initial.r0) × (length l.r1 ≡ length l.initial.r0) × (length l.r2 ≡ length l.initial.r0)
    × (l.r0 ≡ edit (first_cells l.k (λ j v. shaded_by_intensity l.segment (get_or l.locals j nan) 0 v)) l.initial.r0)
    × (l.r1 ≡ edit (first_cells l.k (λ j v. shaded_by_intensity l.segment (get_or l.locals j nan) 1 v)) l.initial.r1)
    × (l.r2 ≡ edit (first_cells l.k (λ j v. shaded_by_intensity l.segment (get_or l.locals j nan) 2 v)) l.initial.r2)
