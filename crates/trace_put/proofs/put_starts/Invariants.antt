-- `put_starts` meets its contract: the starts from `i` on are left to put, and each was judged.
use mathlib.Core.Path.{◌≡◌}
use mathlib.Core.List.{map}
use Prim.Native.Nat.{◌+◌, ◌*◌}
use lib.ListN.{length, drop}
use lib.Seq.{sets}
use Rattle.little.specs.Little.{bytes_of}
use Rattle.trace_put.specs.Steps.{start_number}
use Rattle.trace_put.proofs.put_starts.Given as goal

abbrev pub invariant-loop-i : goal.invariant-loop-i
invariant-loop-i l =
    (length l.bytes ≡ length l.initial.bytes) × (sets l.bytes (4 * (l.from + l.i)) (bytes_of (drop l.i (map start_number l.starts))) ≡ sets l.initial.bytes (4 * l.from) (bytes_of (map start_number l.starts)))
