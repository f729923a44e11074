-- By the test, each branch is its case of `cond`.
use Rattle.shade.proofs.turned.Goals as goal

pub returns-then-turn : goal.returns-then-turn
returns-then-turn c = rw c.if-turn.true

pub returns-else-turn : goal.returns-else-turn
returns-else-turn c = rw c.if-turn.false
