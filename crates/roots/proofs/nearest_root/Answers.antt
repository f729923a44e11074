-- A root is never half way, so the remainder against the root decides.
use Rattle.roots.proofs.Roots.{kept, raised}
use Rattle.roots.proofs.nearest_root.Goals as goal

pub returns-then-n-q : goal.returns-then-n-q
returns-then-n-q c = kept c.args.n c.whole_root-q.result c.whole_root-q.ensures c.if-n-q.true

pub returns-else-n-q : goal.returns-else-n-q
returns-else-n-q c = raised c.args.n c.whole_root-q.result c.whole_root-q.ensures c.if-n-q.false
