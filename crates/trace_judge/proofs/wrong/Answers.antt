-- `wrong` meets its contract: it looks at one number.
use Rattle.trace_judge.proofs.wrong.Goals as goal

pub returns : goal.returns
returns c = rw c.number_at.ensures
