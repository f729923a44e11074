-- The body is the definition; a number above 0 has fewer than 64 leading zeros.
use native.Mathlib.Omega.{arith}
use Rattle.numbers.specs.Saturating.{floor_log2}
use lib.Count.{leading_le, leading_top}
use Rattle.numbers.proofs.floor_log2.Goals as goal

pub overflow_sub-n : goal.overflow_sub-n
overflow_sub-n c = leading_le 64 c.args.n

pub overflow_sub-n-2 : goal.overflow_sub-n-2
overflow_sub-n-2 c = omega (arith, (leading_top 64 c.args.n c.requires c.ranges.n.fits).1)

pub returns : goal.returns
unfolding floor_log2
returns c = c.from.ensures
