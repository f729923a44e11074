-- A hidden segment leaves what was found; any other is joined.
use mathlib.Core.Path.{sym, ◌∙◌}
use Rattle.desks.specs.Desks.{sight_in}
use Rattle.hull.proofs.Reaches.{found_hidden, found_shown}
use Rattle.hull.proofs.with_shown.Goals as goal

pub returns-then-hides : goal.returns-then-hides
returns-then-hides c =
    let A = c.args in
    found_hidden (sight_in A.sight.now) A.table.now.segments.now A.width A.found A.i (sym c.hidden-hides.ensures ∙ c.if-hides.true)

pub returns-else-hides : goal.returns-else-hides
returns-else-hides c =
    let A = c.args in
    found_shown (sight_in A.sight.now) A.table.now.segments.now A.width A.found A.i _ _ (sym c.hidden-hides.ensures ∙ c.if-hides.false) c.at.ensures c.with_segment.ensures
