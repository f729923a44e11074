-- Each way out is decided by the tests that led there.
use mathlib.Core.Path.{sym, ◌∙◌}
use Prim.Native.Nat.{◌*◌, ◌^◌, ◌≤◌, ◌<◌}
use native.Mathlib.Omega.{arith}
use lib.ListN.{length}
use borrow.Author.Tests.{lt-ltb, le-ltb, lt-leb, le-leb}
use Rattle.desks.specs.Desks.{sight_in}
use Rattle.checks.specs.Tables.{table_in}
use Rattle.checks.specs.Checks.{counts_good_for}
use Rattle.checks.proofs.Checks.{counts_facts_for}
use Rattle.bands.specs.Bands.{bands_in}
use Rattle.bands.specs.Calls.{before_rows}
use Rattle.bands.proofs.judge.Goals as goal

pub returns-then-width-gt8388608 : goal.returns-then-width-gt8388608
unfolding before_rows
returns-then-width-gt8388608 c = rw (lt-leb c.args.width (2 ^ 23) (omega arith))

pub returns-then-not-counted : goal.returns-then-not-counted
unfolding before_rows counts_good_for
returns-then-not-counted c =
    let A = c.args in
    rw (le-leb A.width (2 ^ 23) c.if-width-gt8388608.false, sym c.counts_good-counted.ensures ∙ c.if-not-counted.true)

pub returns-then-sight-ge2 : goal.returns-then-sight-ge2
unfolding before_rows counts_good_for
returns-then-sight-ge2 c =
    let A = c.args in
    rw (le-leb A.width (2 ^ 23) c.if-width-gt8388608.false, sym c.counts_good-counted.ensures ∙ c.if-not-counted.false, le-ltb A.sight.now.desk 2 c.if-sight-ge2.true)

pub returns-then-sight : goal.returns-then-sight
unfolding before_rows counts_good_for
returns-then-sight c =
    let A = c.args in
    rw (le-leb A.width (2 ^ 23) c.if-width-gt8388608.false, sym c.counts_good-counted.ensures ∙ c.if-not-counted.false, lt-ltb A.sight.now.desk 2 c.if-sight-ge2.false, lt-leb A.sight.now.splines (length A.sight.now.bits.now) c.if-sight.true)

pub bands_in-requires : goal.bands_in-requires
unfolding counts_good_for
bands_in-requires c =
    let A = c.args in
    let f = counts_facts_for (table_in A.table.now) (sight_in A.sight.now) (sym c.counts_good-counted.ensures ∙ c.if-not-counted.false) in
    f.table.low

pub returns-then-room-bands_in : goal.returns-then-room-bands_in
unfolding before_rows counts_good_for
returns-then-room-bands_in c =
    let A = c.args in
    let r : A.room < 5 * bands_in A.table.now.height = omega (arith, c.bands_in.ensures) in
    rw (le-leb A.width (2 ^ 23) c.if-width-gt8388608.false, sym c.counts_good-counted.ensures ∙ c.if-not-counted.false, lt-ltb A.sight.now.desk 2 c.if-sight-ge2.false, le-leb A.sight.now.splines (length A.sight.now.bits.now) c.if-sight.false, lt-leb (5 * bands_in A.table.now.height) A.room r)

pub returns : goal.returns
unfolding before_rows counts_good_for
returns c =
    let A = c.args in
    let r : 5 * bands_in A.table.now.height ≤ A.room = omega (arith, c.bands_in.ensures) in
    rw (le-leb A.width (2 ^ 23) c.if-width-gt8388608.false, sym c.counts_good-counted.ensures ∙ c.if-not-counted.false, lt-ltb A.sight.now.desk 2 c.if-sight-ge2.false, le-leb A.sight.now.splines (length A.sight.now.bits.now) c.if-sight.false, le-leb (5 * bands_in A.table.now.height) A.room r)
