-- A zero's sign is that of its reciprocal; any other value's that of the comparison.
use lib.Ieee.{of_bits}
use Rattle.numbers.proofs.Zero.{yes, no}
use Rattle.numbers.proofs.Signs.{sign_null, sign_other}
use Rattle.numbers.proofs.negative.Goals as goal

pub returns-then-x : goal.returns-then-x
unfolding of_bits
returns-then-x c = sign_null c.args.x (yes c.if-x.true)

pub returns-else-x : goal.returns-else-x
unfolding of_bits
returns-else-x c = sign_other c.args.x (no c.if-x.false)
