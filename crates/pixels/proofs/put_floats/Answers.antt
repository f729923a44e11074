-- `pixels::put_floats`: twelve bytes, four behind four.
use Rattle.pixels.proofs.Strips.{stored_floats}
use Rattle.pixels.proofs.put_floats.Goals as goal

pub returns : goal.returns
returns c = stored_floats c.args.out.now c.args.at c.args.x c.args.y c.args.b c.put_float.ensures c.put_float-2.ensures c.put_float-3.ensures
