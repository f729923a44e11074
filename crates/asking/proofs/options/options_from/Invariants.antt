-- Each word that is an option takes one argument or two.
use Prim.Native.Nat.{◌+◌, ◌*◌, ◌≤◌}
use Rattle.asking.proofs.options.options_from.Given as goal

abbrev pub invariant-loop-i : goal.invariant-loop-i
invariant-loop-i g l = l.options.at ≤ 2 + 2 * l._i
