-- Either desk's bit taken away, and added where it is asked for.
use native.Mathlib.Omega.{arith}
use Rattle.desks.proofs.Bits.{made_first, made_second}
use Rattle.desks.proofs.with_bit.Goals as goal

pub returns-then-hidden : goal.returns-then-hidden
returns-then-hidden c =
    let A = c.args in
    made_first A.desk A.byte A.hidden {w = 1} (omega arith) (rw c.if-hidden.true) (omega arith)

pub returns-else-hidden : goal.returns-else-hidden
returns-else-hidden c =
    let A = c.args in
    made_first A.desk A.byte A.hidden {w = 0} (omega arith) (rw c.if-hidden.false) (omega arith)

pub returns-then-hidden-2 : goal.returns-then-hidden-2
returns-then-hidden-2 c =
    let A = c.args in
    made_second A.desk A.byte A.hidden {w = 2} (omega arith) (rw c.if-hidden-2.true) (omega arith)

pub returns-else-hidden-2 : goal.returns-else-hidden-2
returns-else-hidden-2 c =
    let A = c.args in
    made_second A.desk A.byte A.hidden {w = 0} (omega arith) (rw c.if-hidden-2.false) (omega arith)
