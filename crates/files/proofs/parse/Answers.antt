-- `files::parse` stores no more values than there are cells.
use borrow.Author.Rules.{rules}
use Rattle.files.proofs.Readings.{held_within}
use Rattle.files.proofs.parse.Goals as goal

pub returns-in-Ok : goal.returns-in-Ok
returns-in-Ok c = record { held = held_within _ _ _ c.in-Ok.ensures; told = search rules }
