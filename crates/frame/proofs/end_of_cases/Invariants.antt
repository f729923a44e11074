-- `frame::end_of_cases` meets its contract: the cases that are left end where all do, and no case ends before it begins.
use mathlib.Core.Path.{◌≡◌}
use Prim.Native.Nat.{◌≤◌, ◌-◌}
use lib.ListN.{length, get_or}
use Rattle.frame.specs.Frame.{end_from, all_end}
use Rattle.frame.proofs.end_of_cases.Given as goal

abbrev pub invariant-loop-i : goal.invariant-loop-i
invariant-loop-i l = (l.at ≤ length l.words - 1) × (end_from l.words (get_or l.words 2 0 - l._i) l.at ≡ all_end l.words)
