-- The entries before j are drawn.
use Rattle.desks.specs.Desks.{sight_in}
use Rattle.checks.specs.Tables.{table_in}
use Rattle.entries.proofs.Entries.{Going}
use Rattle.entries.proofs.draw_each.Given as goal

abbrev pub invariant-loop-j : goal.invariant-loop-j
invariant-loop-j l = Going (table_in l.table) (sight_in l.sight) l.part.y l.part.x0 l.part.n l.b l.e l.j l.total l.initial.r0 l.initial.r1 l.initial.r2 l.r0 l.r1 l.r2
