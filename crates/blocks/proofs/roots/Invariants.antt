-- The cells below k are roots of what stood there, from turn to turn.
use mathlib.Core.Path.{◌≡◌}
use lib.ListN.{length}
use lib.Ieee.{binary32}
use Rattle.roots.specs.Root.{sqrt_of}
use Rattle.shade.specs.Edit.{edit, first_cells}
use Rattle.blocks.proofs.roots.Given as goal

abbrev pub invariant-loop-k : goal.invariant-loop-k
invariant-loop-k l =
    (length l.v ≡ 32) × (length l.initial.v ≡ 32) × (l.v ≡ edit (first_cells l.k (λ j w. sqrt_of binary32 w)) l.initial.v)
