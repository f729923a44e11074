-- A desk that is none and a width above the limit are refused; else the checks of a row decide.
use Prim.Native.Nat.{◌^◌}
use native.Mathlib.Omega.{arith}
use borrow.Author.Tests.{lt-ltb, le-ltb, lt-leb, le-leb}
use Rattle.hull.specs.Reach.{judge_reach_of}
use Rattle.hull.proofs.judge_reach.Goals as goal

pub returns-then-sight-ge2 : goal.returns-then-sight-ge2
unfolding judge_reach_of
returns-then-sight-ge2 c = rw (le-ltb c.args.sight.now.desk 2 (omega arith))

pub returns-then-width-gt8388608 : goal.returns-then-width-gt8388608
unfolding judge_reach_of
returns-then-width-gt8388608 c = rw (lt-ltb c.args.sight.now.desk 2 (omega arith), lt-leb c.args.width (2 ^ 23) (omega arith))

pub returns : goal.returns
unfolding judge_reach_of
returns c = rw (lt-ltb c.args.sight.now.desk 2 (omega arith), le-leb c.args.width (2 ^ 23) (omega arith), c.judge_row.ensures)
