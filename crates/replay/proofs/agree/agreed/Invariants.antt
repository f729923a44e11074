-- `replay::agree::agreed` meets its contract: in a whole file each case lies within, and no more are found than were passed.
use mathlib.Core.Path.{◌≡◌}
use Prim.Native.Nat.{◌-◌, ◌≤◌}
use lib.ListN.{length, get_or}
use Rattle.frame.specs.Frame.{end_from}
use Rattle.replay.proofs.agree.agreed.Given as goal

abbrev pub invariant-loop-i : goal.invariant-loop-i
invariant-loop-i l = (end_from l.words (get_or l.words 2 0 - l._i) l.at ≡ length l.words - 1) × (l.found ≤ l._i)
