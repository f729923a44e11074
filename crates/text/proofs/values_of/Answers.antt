use native.Mathlib.Omega.{arith}
use borrow.Author.Rules.{rules}
use Rattle.text.proofs.Reading.{going_begin, going_on, going_stops, going_done}
use Rattle.text.proofs.values_of.Goals as goal

pub loop-i-init : goal.loop-i-init
loop-i-init c = going_begin _ _

pub turn-requires : goal.turn-requires
turn-requires c = omega (arith, c.loop-i.invariant.kept, c.loop-i.invariant.within)

pub returns-in_err-inside : goal.returns-in_err-inside
returns-in_err-inside c = going_stops c.loop-i.invariant (omega (arith, c.loop-i-test.true)) c.byte_at.ensures c.turn.ensures c.in_err-inside.was (search rules)

pub loop-i-preserved : goal.loop-i-preserved
loop-i-preserved c = going_on c.loop-i.invariant (omega (arith, c.loop-i-test.true)) c.byte_at.ensures c.turn.ensures c.in_ok-inside.was

pub returns : goal.returns
returns c = going_done c.loop-i.invariant (omega (arith, c.loop-i-test.false))
