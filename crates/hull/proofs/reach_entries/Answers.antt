use mathlib.Core.Path.{refl}
use native.Mathlib.Omega.{arith}
use Rattle.desks.specs.Desks.{sight_in}
use Rattle.checks.proofs.Entries.{first_in_segments, first_seen, rest_fit}
use Rattle.hull.proofs.Reaches.{reach_next, reach_end}
use Rattle.hull.proofs.reach_entries.Goals as goal

pub loop-j-init : goal.loop-j-init
loop-j-init c = (c.requires.0, refl)

pub with_shown-found-requires : goal.with_shown-found-requires
with_shown-found-requires c =
    let fit = c.loop-j.invariant.0 in
    (first_in_segments fit c.loop-j-test.true, first_seen fit c.loop-j-test.true)

pub loop-j-preserved : goal.loop-j-preserved
loop-j-preserved c =
    let A = c.args in
    let l = c.loop-j in
    let t = c.loop-j-test.true in (
      rest_fit l.invariant.0 t,
      reach_next (sight_in A.sight.now) A.table.now.segments.now A.width l.j A.e A.table.now.entries.now l.found _ _ t c.requires.0.entries_fit l.invariant.1 c.with_shown-found.ensures,
    )

pub returns : goal.returns
returns c =
    let A = c.args in
    let l = c.loop-j in
    reach_end (sight_in A.sight.now) A.table.now.segments.now A.width A.b l.j A.e A.table.now.entries.now l.found c.requires.1 (omega arith) c.loop-j-test.false l.invariant.1
