use borrow.Author.Rules.{rules}
use native.Mathlib.Omega.{arith}
use Rattle.frame.proofs.Laws.{none_less, less, case_within, end_more, held_found, held_passed, held_done, whole_within}
use Rattle.frame.proofs.held.Goals as goal
use Rattle.frame.proofs.held.Goals.{then-words-at, else-words-at}

pub bounds-words-2 : goal.bounds-words-2
bounds-words-2 c = omega (arith, whole_within _ c.requires)

pub loop-i-init : goal.loop-i-init
loop-i-init c = (rw none_less (whole_within _ c.requires).ends, rw none_less (search rules), search rules)

pub offset_bounds-words-at : goal.offset_bounds-words-at
offset_bounds-words-at c = omega (arith, case_within _ _ _ (omega arith) c.loop-i.invariant.0)

pub bounds-words-at : goal.bounds-words-at
bounds-words-at c = omega (arith, case_within _ _ _ (omega arith) c.loop-i.invariant.0)

pub overflow_add-found : goal.overflow_add-found
overflow_add-found c = omega (arith, c.type_inv.words 2)

pub size_of_case-at-requires : goal.size_of_case-at-requires
size_of_case-at-requires c = omega (arith, case_within _ _ _ (omega arith) c.loop-i.invariant.0)

pub overflow_add-at : goal.overflow_add-at
overflow_add-at c = omega (arith, case_within _ _ _ (omega arith) c.loop-i.invariant.0)

pub loop-i-preserved : goal.loop-i-preserved
loop-i-preserved c = (
  rw less (end_more _ _ _ (omega arith) c.size_of_case-at.ensures c.loop-i.invariant.0),
  rw less (elim c.if-words-at.branch [
    | then-words-at w ↦ omega (arith, held_found c.args.words.now c.args.kind _ c.loop-i.at c.loop-i.found (omega arith) c.size_of_case-at.ensures c.loop-i.invariant.1 w.if-words-at.true)
    | else-words-at w ↦ omega (arith, held_passed c.args.words.now c.args.kind _ c.loop-i.at c.loop-i.found (omega arith) c.size_of_case-at.ensures c.loop-i.invariant.1 w.if-words-at.false)
  ]),
  elim c.if-words-at.branch [ then-words-at w ↦ omega arith | else-words-at w ↦ omega arith ],
)

pub returns : goal.returns
returns c = held_done _ _ _ _ _ (omega arith) c.loop-i.invariant.1
