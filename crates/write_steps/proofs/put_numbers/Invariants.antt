-- `write_steps::put_numbers` meets its contract: the numbers from `i` on are left to store.
use mathlib.Core.Path.{◌≡◌}
use mathlib.Core.List.{map}
use Prim.Native.Nat.{◌+◌}
use lib.ListN.{length, drop}
use lib.Seq.{sets}
use Rattle.list.specs.List.{pack_signed}
use Rattle.write_steps.proofs.put_numbers.Given as goal

abbrev pub invariant-loop-i : goal.invariant-loop-i
invariant-loop-i l =
    (length l.list ≡ length l.initial.list)
    × (sets l.list (l.at + l.i) (map pack_signed (drop l.i l.numbers)) ≡ sets l.initial.list l.at (map pack_signed l.numbers))
