-- The cells below a of each channel have the segment added, from block to block; one law turns each channel.
use mathlib.Core.Path.{◌≡◌}
use Prim.Native.Nat.{◌+◌, ◌-◌, ◌≤◌, ◌^◌}
use lib.ListN.{length}
use Rattle.shade.specs.Edit.{edit, first_cells}
use Rattle.shade.specs.Shade.{dy2, shaded}
use Rattle.blocks.proofs.add_segment.Given as goal

abbrev pub invariant-loop-a : goal.invariant-loop-a
invariant-loop-a l =
    (l.a ≤ l.n) × (l.n ≡ length l.initial.r0) × (l.x + l.n ≤ 2 ^ 23) × (length l.r0 ≡ l.n) × (length l.r1 ≡ l.n) × (length l.r2 ≡ l.n) × (l.dy2 ≡ dy2 l.segment.center_y l.y)
    × (l.r0 ≡ edit (first_cells l.a (λ k v. shaded l.segment l.y (l.x + k) 0 v)) l.initial.r0)
    × (l.r1 ≡ edit (first_cells l.a (λ k v. shaded l.segment l.y (l.x + k) 1 v)) l.initial.r1)
    × (l.r2 ≡ edit (first_cells l.a (λ k v. shaded l.segment l.y (l.x + k) 2 v)) l.initial.r2)

abbrev pub decreases-loop-a : goal.decreases-loop-a
decreases-loop-a l = l.n - l.a
