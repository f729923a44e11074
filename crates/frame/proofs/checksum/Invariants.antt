-- `frame::checksum` meets its contract: the sum so far, carried on over the words that are left, is the whole sum.
use mathlib.Core.Path.{◌≡◌}
use Prim.Native.Nat.{◌<◌}
use lib.ListN.{drop}
use Rattle.frame.specs.Frame.{sum_from, sum_of}
use Rattle.frame.proofs.checksum.Given as goal

abbrev pub invariant-loop-word : goal.invariant-loop-word
invariant-loop-word l = (l.sum < 4294967296) × (sum_from l.sum (drop l.word-index l.words) ≡ sum_of l.words)
