-- `check_splines`: what all splines say is what those left say.
use mathlib.Core.Path.{◌≡◌}
use lib.ListN.{drop}
use Rattle.profile.specs.Profile.{check_splines}
use Rattle.profile.proofs.check_splines.Given as goal

abbrev pub invariant-loop-k : goal.invariant-loop-k
invariant-loop-k l = check_splines l.limits l.counts l.c 0 ≡ check_splines l.limits (drop l.k l.counts) l.c l.k
