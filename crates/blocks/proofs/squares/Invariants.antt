-- The cells below k are the squares, from turn to turn.
use mathlib.Core.Path.{◌≡◌}
use Prim.Native.Nat.{◌+◌}
use lib.ListN.{length}
use Rattle.shade.specs.Edit.{edit, first_cells}
use Rattle.shade.specs.Shade.{sqd}
use Rattle.blocks.proofs.squares.Given as goal

abbrev pub invariant-loop-k : goal.invariant-loop-k
invariant-loop-k l =
    (length l.v ≡ 32) × (length l.initial.v ≡ 32) × (l.v ≡ edit (first_cells l.k (λ j w. sqd l.center_x l.dy2 (l.x + j))) l.initial.v)
