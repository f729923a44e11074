-- The tests decide.
use native.Mathlib.Omega.{arith}
use borrow.Author.Tests.{lt-ltb, le-ltb}
use Rattle.band_sums.proofs.least_with.Goals as goal

pub returns-then-sum-eq0 : goal.returns-then-sum-eq0
returns-then-sum-eq0 c = rw (le-ltb 0 c.args.sum.entries (omega arith)) (omega arith)

pub returns : goal.returns
returns c = rw (lt-ltb 0 c.args.sum.entries (omega arith)) c.min.ensures
