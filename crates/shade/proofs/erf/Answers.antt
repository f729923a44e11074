-- By the comparison: below zero the magnitude's value is turned, else it is kept.
use lib.Ieee.{of_bits}
use Rattle.numbers.proofs.Zero.{yes}
use Rattle.shade.proofs.Erfs.{erf_alike}
use Rattle.shade.proofs.erf.Goals as goal

pub returns : goal.returns
unfolding of_bits
returns c = erf_alike c.args.x _ _ _ (yes c.well_formed.0.1) c.turned.ensures c.erf_core.ensures c.turned-2.ensures
