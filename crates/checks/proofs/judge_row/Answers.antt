-- The counts that passed are what a look at the row's entries needs.
use mathlib.Core.Path.{◌≡◌, sym, ◌∙◌}
use mathlib.Core.Bool.{true}
use native.Mathlib.Omega.{arith}
use borrow.Author.Tests.{lt-leb, le-ltb}
use Rattle.desks.specs.Desks.{sight_in}
use Rattle.checks.specs.Tables.{table_in}
use Rattle.checks.proofs.Checks.{counts_facts_for}
use Rattle.checks.proofs.Entries.{or_left}
use Rattle.checks.proofs.judge_row.Goals as goal

-- The counts are taken from all tests that passed, so that this need holds in any order of the tests, and only an answer tells a wrong order.
pub entries_good-requires : goal.entries_good-requires
entries_good-requires c =
    let g : c.counts_good-counted.result ≡ true = search (or_left, lt-leb, le-ltb, c.if-not-counted.false, c.if-table-y.false, c.if-sight.false) in
    let f = counts_facts_for (table_in c.args.table.now) (sight_in c.args.sight.now) (sym c.counts_good-counted.ensures ∙ g) in
    (f.table.entries_fit, omega arith, f.owners_fit)
