-- `put_made`: by cases of what the point makes and of the room.
use native.Mathlib.Omega.{arith}
use Rattle.points.proofs.Adding.{made_none, made_one, made_room}
use Rattle.points.proofs.put_made.Goals as goal

pub returns-then-count-segment_room : goal.returns-then-count-segment_room
returns-then-count-segment_room c = rw c.in-Some.is (made_room _ _ _ (omega (arith, c.segment_room.ensures, c.if-count-segment_room.true)), tt)

pub overflow_mul-count : goal.overflow_mul-count
overflow_mul-count c = omega (arith, c.segment_room.ensures, c.if-count-segment_room.false)

pub put-requires : goal.put-requires
put-requires c = omega (arith, c.segment_room.ensures, c.if-count-segment_room.false)

pub overflow_add-result : goal.overflow_add-result
overflow_add-result c = omega (arith, c.segment_room.ensures, c.if-count-segment_room.false)

pub returns-in_default : goal.returns-in_default
returns-in_default c = rw c.in_default.is (made_none _ _ _ c.requires)

pub returns : goal.returns
returns c = rw (c.in-Some.is, c.put.ensures) (made_one _ _ _ _ (omega (arith, c.segment_room.ensures, c.if-count-segment_room.false)))
