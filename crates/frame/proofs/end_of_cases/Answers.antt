use borrow.Author.Rules.{rules}
use native.Mathlib.Omega.{arith}
use Rattle.frame.proofs.Laws.{none_less, less, end_more, case_within, end_done, ends_at, ends_past}
use Rattle.frame.proofs.end_of_cases.Goals as goal

pub loop-i-init : goal.loop-i-init
loop-i-init c = (omega arith, rw none_less (search rules))

pub returns-then-last-at-lt3 : goal.returns-then-last-at-lt3
returns-then-last-at-lt3 c = ends_past _ (omega (arith, case_within _ _ _ (omega arith) c.loop-i.invariant.1))

pub returns-then-last-at : goal.returns-then-last-at
returns-then-last-at c = ends_past _ (omega (arith, case_within _ _ _ (omega arith) c.loop-i.invariant.1))

pub loop-i-preserved : goal.loop-i-preserved
loop-i-preserved c = (omega arith, rw less (end_more _ _ _ (omega arith) c.size_of_case-size.ensures c.loop-i.invariant.1))

pub returns : goal.returns
returns c = ends_at _ c.loop-i.invariant.0 (end_done _ _ _ (omega arith) c.loop-i.invariant.1)
