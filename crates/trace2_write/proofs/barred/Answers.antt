-- `barred` meets its contract: the edition by itself, then edition 2 in version 1.
use mathlib.Core.Path.{sym, ◌∙◌}
use borrow.Author.Tests.{ne_eqb}
use Rattle.trace2.proofs.Editions.{barred_unknown, barred_first, barred_other}
use Rattle.trace2_write.proofs.barred.Goals as goal

pub returns-then-unknown : goal.returns-then-unknown
returns-then-unknown c = let a = c.args in c.if-unknown.true ∙ barred_unknown a.version a.edition (sym c.unknown.ensures ∙ c.if-unknown.true)

pub returns-then-version-eq1 : goal.returns-then-version-eq1
returns-then-version-eq1 c =
    let a = c.args in
    barred_first a.version a.edition (sym c.unknown.ensures ∙ c.if-unknown.false) c.if-version-eq1.true

pub returns-else-version-eq1 : goal.returns-else-version-eq1
returns-else-version-eq1 c =
    let a = c.args in
    ne_eqb a.version 1 c.if-version-eq1.false ∙ barred_other a.version a.edition (sym c.unknown.ensures ∙ c.if-unknown.false) c.if-version-eq1.false
