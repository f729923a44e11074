-- The sum has no room for a fraction, and the difference is exact.
use lib.Ieee.{of_bits}
use Rattle.wholes.proofs.Steps.{near_whole}
use Rattle.wholes.proofs.nearest_to.Goals as goal

pub returns : goal.returns
unfolding of_bits
returns c = near_whole c.args.a c.requires
