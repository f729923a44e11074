-- `put_numbers` meets its contract: the numbers from `i` on are left to put.
use mathlib.Core.Path.{◌≡◌}
use Prim.Native.Nat.{◌+◌, ◌*◌}
use lib.ListN.{length, drop}
use lib.Seq.{sets}
use Rattle.little.specs.Little.{bytes_of}
use Rattle.trace_put.proofs.put_numbers.Given as goal

abbrev pub invariant-loop-i : goal.invariant-loop-i
invariant-loop-i l =
    (length l.bytes ≡ length l.initial.bytes) × (sets l.bytes (4 * (l.from + l.i)) (bytes_of (drop l.i (l.numbers))) ≡ sets l.initial.bytes (4 * l.from) (bytes_of (l.numbers)))
