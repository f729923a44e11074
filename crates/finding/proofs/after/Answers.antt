-- `finding::after` goes on by a byte at least.
use Rattle.finding.proofs.Passed.{passes}
use Rattle.finding.proofs.after.Goals as goal

pub returns-then-stands : goal.returns-then-stands
returns-then-stands c = passes c.find.result c.requires c.find.ensures.within c.unwrap_or.ensures
