-- The closest whole number, and one more at a tie that went down, is the number rounded half up.
use native.Mathlib.Omega.{arith}
use lib.Ieee.{of_bits}
use Rattle.wholes.proofs.Rounds.{near_cast, rounded_by}
use Rattle.wholes.proofs.half_of.Goals as goal

pub nearest_to-near-requires : goal.nearest_to-near-requires
nearest_to-near-requires c = c.requires

pub float_to_int-near : goal.float_to_int-near
float_to_int-near c = (near_cast c.args.a c.requires c.nearest_to-near.ensures).0

pub overflow_add-near : goal.overflow_add-near
unfolding of_bits
overflow_add-near c = omega (arith, (rounded_by c.args.a c.requires c.nearest_to-near.ensures c.unless-up.ensures).most)

pub returns : goal.returns
unfolding of_bits
returns c = rw c.from.ensures (rounded_by c.args.a c.requires c.nearest_to-near.ensures c.unless-up.ensures)
