-- `load_part` meets its contract: what the first i numbers stand for is in front.
use mathlib.Core.Path.{◌≡◌}
use mathlib.Core.List.{◌++◌, map}
use Prim.Native.Nat.{ℕ}
use lib.ListN.{take, drop}
use Rattle.little.specs.Little.{numbers_in}
use Rattle.trace_load.proofs.load_part.Given as goal

abbrev pub invariant-loop-i : goal.invariant-loop-i
invariant-loop-i g l =
    (meant : ℕ → _) → ((u : ℕ) (r : _) → goal.F-post g l.stands u r → r ≡ meant u)
    → l.out ≡ take l.i (map meant (numbers_in l.part)) ++ drop l.i l.initial.out
