use borrow.Author.Rules.{rules}
use native.Mathlib.Omega.{arith}
use Rattle.frame.proofs.Laws.{none_less, less, case_within, end_more, whole_within}
use Rattle.replay.proofs.agree.agreed.Goals as goal
use Rattle.replay.proofs.agree.agreed.Goals.{then-agrees_at, else-agrees_at}

pub bounds-words-2 : goal.bounds-words-2
bounds-words-2 c = omega (arith, whole_within _ c.requires)

pub loop-i-init : goal.loop-i-init
loop-i-init c = (rw none_less (whole_within _ c.requires).ends, search rules)

pub agrees_at-requires : goal.agrees_at-requires
agrees_at-requires c = omega (arith, case_within _ _ _ (omega arith) c.loop-i.invariant.0)

pub overflow_add-found : goal.overflow_add-found
overflow_add-found c = omega (arith, c.type_inv.words 2)

pub size_of_case-at-requires : goal.size_of_case-at-requires
size_of_case-at-requires c = omega (arith, case_within _ _ _ (omega arith) c.loop-i.invariant.0)

pub overflow_add-at : goal.overflow_add-at
overflow_add-at c = omega (arith, case_within _ _ _ (omega arith) c.loop-i.invariant.0)

pub loop-i-preserved : goal.loop-i-preserved
loop-i-preserved c = (
  rw less (end_more _ _ _ (omega arith) c.size_of_case-at.ensures c.loop-i.invariant.0),
  elim c.if-agrees_at.branch [ then-agrees_at w ↦ omega arith | else-agrees_at w ↦ omega arith ],
)
