-- `placed` meets its contract: the pattern of q * 2 ^ w is the sum that the code makes.
use Rattle.roots.proofs.Placed.{pattern_is, pattern_no_nan}
use Rattle.roots.proofs.lengths.placed.Goals as goal

pub float_from_bits-result : goal.float_from_bits-result
float_from_bits-result c = pattern_no_nan c.args.q c.args.w c.requires.fact_1 c.requires.fact_2 c.requires.fact_3

pub returns : goal.returns
returns c = pattern_is c.args.q c.args.w c.requires.fact_1 c.requires.fact_2 c.requires.fact_3
