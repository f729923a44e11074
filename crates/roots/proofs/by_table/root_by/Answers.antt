-- `root_by` meets its contract: a pattern other than 0 is the root's own, whatever the table held, and everything else is `root`'s.
use Rattle.numbers.proofs.Zero.{yes, positive_is}
use Rattle.roots.proofs.RootBy.{above, found_no_nan, found_root}
use Rattle.roots.proofs.by_table.root_by.Goals as goal

pub float_to_bits-bits : goal.float_to_bits-bits
float_to_bits-bits c = positive_is c.args.x (above c.args.x (yes c.well_formed.0.1) (yes c.if-x.true) (yes c.if-x-2.true))

pub float_from_bits-result : goal.float_from_bits-result
float_from_bits-result c = found_no_nan _ _ c.pattern-p.ensures c.if-p-gt0.true

pub returns-then-p-gt0 : goal.returns-then-p-gt0
returns-then-p-gt0 c = found_root c.args.x (yes c.well_formed.0.1) (yes c.if-x.true) (yes c.if-x-2.true) _ c.pattern-p.ensures c.if-p-gt0.true
