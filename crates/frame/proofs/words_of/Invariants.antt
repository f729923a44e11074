-- `frame::words_of` meets its contract: each word below the counter is stored, and the buffer keeps its length.
use mathlib.Core.Path.{◌≡◌}
use Prim.Native.Nat.{ℕ, ◌<◌, ◌*◌}
use lib.ListN.{length, get_or}
use Rattle.frame.specs.Frame.{word_at}
use Rattle.frame.proofs.words_of.Given as goal

abbrev pub invariant-loop-i : goal.invariant-loop-i
invariant-loop-i l = (length l.words ≡ length l.initial.words) × ((k : ℕ) → k < l.i → get_or l.words k 0 ≡ word_at l.bytes (4 * k))
