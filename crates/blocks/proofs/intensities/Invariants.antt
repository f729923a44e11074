-- The cells below k are intensities by the distances that stood there, from turn to turn.
use mathlib.Core.Path.{◌≡◌}
use lib.ListN.{length}
use Rattle.shade.specs.Edit.{edit, first_cells}
use Rattle.shade.specs.Shade.{intensity_at}
use Rattle.blocks.proofs.intensities.Given as goal

abbrev pub invariant-loop-k : goal.invariant-loop-k
invariant-loop-k l =
    (length l.v ≡ 32) × (length l.initial.v ≡ 32) × (l.v ≡ edit (first_cells l.k (λ j w. intensity_at l.segment w)) l.initial.v)
