-- Each way out is decided by the tests that led there.
use native.Mathlib.Omega.{arith}
use lib.ListN.{length}
use borrow.Author.Tests.{lt-ltb, le-ltb}
use Rattle.desks.specs.Hide.{hide_of}
use Rattle.desks.proofs.hide.Goals as goal

pub returns-then-desk-ge2 : goal.returns-then-desk-ge2
unfolding hide_of
returns-then-desk-ge2 c = rw (le-ltb c.args.desk 2 (omega arith))

pub returns-then-bits-at : goal.returns-then-bits-at
unfolding hide_of
returns-then-bits-at c =
    let A = c.args in
    rw (lt-ltb A.desk 2 (omega arith), le-ltb A.spline (length A.bits.now) (omega arith))

pub returns : goal.returns
unfolding hide_of
returns c =
    let A = c.args in
    rw (lt-ltb A.desk 2 (omega arith), lt-ltb A.spline (length A.bits.now) (omega arith), c.with_bit.ensures)
