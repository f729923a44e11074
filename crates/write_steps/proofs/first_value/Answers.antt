-- `write_steps::first_value` meets its contract: a first start is a whole number from 0 on.
use Rattle.write_steps.proofs.Values.{first_signed}
use Rattle.write_steps.proofs.first_value.Goals as goal

pub float_to_int-result : goal.float_to_int-result
float_to_int-result c = (first_signed c.args.x c.requires).0

pub returns : goal.returns
returns c = (first_signed c.args.x c.requires).1
