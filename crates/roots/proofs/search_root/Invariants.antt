-- The invariant: the root lies from lo up to but not including hi. The measure is their distance.
use Prim.Native.Nat.{◌-◌, ◌*◌, ◌≤◌, ◌<◌}
use Rattle.roots.proofs.search_root.Given as goal

abbrev pub invariant-loop-hi : goal.invariant-loop-hi
invariant-loop-hi l = (l.lo * l.lo ≤ l.n) × (l.n < l.hi * l.hi) × (l.lo < l.hi) × (l.hi ≤ 16777216)

abbrev pub decreases-loop-hi : goal.decreases-loop-hi
decreases-loop-hi l = l.hi - l.lo
