-- `judge_length` meets its contract: two comparisons.
use Rattle.trace_judge.proofs.Faults.{length_short, length_trail, length_fine}
use Rattle.trace_judge.proofs.judge_length.Goals as goal

pub returns-then-size-due : goal.returns-then-size-due
returns-then-size-due c = length_short c.args.size c.args.due c.if-size-due.true

pub returns-then-due-size : goal.returns-then-due-size
returns-then-due-size c = length_trail c.args.size c.args.due c.if-size-due.false c.if-due-size.true

pub returns : goal.returns
returns c = length_fine c.args.size c.args.due c.if-size-due.false c.if-due-size.false
