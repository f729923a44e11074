-- The pairs before pair k are drawn.
use Prim.Native.Nat.{◌+◌, ◌*◌}
use Rattle.desks.specs.Desks.{sight_in}
use Rattle.checks.specs.Tables.{table_in}
use Rattle.entries.proofs.Entries.{Going}
use Rattle.entries.proofs.draw_entries.Given as goal

abbrev pub invariant-loop-k : goal.invariant-loop-k
invariant-loop-k l = Going (table_in l.table) (sight_in l.sight) l.part.y l.part.x0 l.part.n l.b l.e (l.b + 2 * l.k) l.total l.initial.r0 l.initial.r1 l.initial.r2 l.r0 l.r1 l.r2
