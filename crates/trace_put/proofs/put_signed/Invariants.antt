-- `put_signed` meets its contract: the numbers from `i` on are left to put.
use mathlib.Core.Path.{◌≡◌}
use mathlib.Core.List.{map}
use Prim.Native.Nat.{◌+◌, ◌*◌}
use lib.ListN.{length, drop}
use lib.Seq.{sets}
use Rattle.little.specs.Little.{bytes_of, unsigned_of}
use Rattle.trace_put.proofs.put_signed.Given as goal

abbrev pub invariant-loop-i : goal.invariant-loop-i
invariant-loop-i l =
    (length l.bytes ≡ length l.initial.bytes) × (sets l.bytes (4 * (l.from + l.i)) (bytes_of (drop l.i (map unsigned_of l.numbers))) ≡ sets l.initial.bytes (4 * l.from) (bytes_of (map unsigned_of l.numbers)))
