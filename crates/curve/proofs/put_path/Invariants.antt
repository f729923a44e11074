-- `curve::put_path`: the invariant is that the turn stands where the windows written so far end, and that what is written and what is left make up the path.
use mathlib.Core.Path.{◌≡◌}
use Prim.Native.Nat.{◌+◌, ◌*◌}
use lib.ListN.{length}
use Rattle.buffers.proofs.Filling.{Filled}
use Rattle.curve.proofs.Turning.{Under, turn_path}
use Rattle.curve.proofs.put_path.Given as goal

abbrev pub invariant-loop-k : goal.invariant-loop-k
invariant-loop-k l =
    (length l.out ≡ length l.initial.out)
    × Under l.t l.deltas (l.k + 1) × Filled (turn_path l.initial.t l.deltas 1) l.initial.out l.out (turn_path l.t l.deltas (l.k + 1)) (32 * l.k)
