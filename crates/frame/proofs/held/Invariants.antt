-- `frame::held` meets its contract: the cases found and those that are left are all, and in a whole file each lies within.
use mathlib.Core.Path.{◌≡◌}
use Prim.Native.Nat.{◌≤◌, ◌-◌, ◌+◌}
use lib.ListN.{length, get_or}
use Rattle.frame.specs.Frame.{end_from, held_from, held_of}
use Rattle.frame.proofs.held.Given as goal

abbrev pub invariant-loop-i : goal.invariant-loop-i
invariant-loop-i l = (end_from l.words (get_or l.words 2 0 - l._i) l.at ≡ length l.words - 1) × (l.found + held_from l.words l.kind (get_or l.words 2 0 - l._i) l.at ≡ held_of l.words l.kind) × (l.found ≤ l._i)
