-- `stored::is_float` meets its contract: a pattern that is read back gives the number, and there is one NaN.
use borrow.Author.Rules.{rules}
use Rattle.stored.proofs.Patterns.{stored_float}
use Rattle.stored.proofs.is_float.Goals as goal

pub returns : goal.returns
returns c = stored_float c.args.x c.args.bits (search rules) c.f32_to_bits_with_nan.ensures
