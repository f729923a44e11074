use mathlib.Core.Path.{refl, sym, ◌∙◌}
use native.Mathlib.Omega.{arith}
use lib.ListN.{get_or}
use borrow.Author.Tests.{lt-ltb, le-ltb}
use Rattle.desks.specs.Desks.{sight_in}
use Rattle.band_sums.proofs.Sums.{over_not_below, over_not_owned, over_next, over_none, with_most}
use Rattle.band_sums.proofs.sum_entries.Goals as goal

pub loop-j-init : goal.loop-j-init
loop-j-init c = (c.requires.b_le_e.0, refl)

pub returns-then-table-i : goal.returns-then-table-i
returns-then-table-i c =
    let A = c.args in
    let l = c.loop-j in
    let t = c.loop-j-test.true in
    sym (l.invariant.1 ∙ over_not_below A.table.now.segments.now A.table.now.segment_count (sight_in A.sight.now) A.width A.e A.table.now.entries.now c.requires.b_le_e.3 l.total l.j t (le-ltb _ _ c.if-table-i.true))

pub returns-then-sight-i : goal.returns-then-sight-i
returns-then-sight-i c =
    let A = c.args in
    let l = c.loop-j in
    let t = c.loop-j-test.true in
    sym (l.invariant.1 ∙ over_not_owned A.table.now.segments.now A.table.now.segment_count (sight_in A.sight.now) A.width A.e A.table.now.entries.now c.requires.b_le_e.3 l.total l.j t (le-ltb (get_or A.sight.now.owners.now (get_or A.table.now.entries.now l.j 0) 0) A.sight.now.splines (omega arith)))

pub loop-j-preserved : goal.loop-j-preserved
loop-j-preserved c =
    let A = c.args in
    let l = c.loop-j in
    let t = c.loop-j-test.true in
    let s = sight_in A.sight.now in
    let q = c.with_entry-total.ensures in
    let m = with_most A.table.now.segments.now s A.width l.total (get_or A.table.now.entries.now l.j 0) q in (
      omega (arith, m, l.invariant.0),
      l.invariant.1
          ∙ over_next A.table.now.segments.now A.table.now.segment_count s A.width A.e A.table.now.entries.now c.requires.b_le_e.3 l.total _ l.j t (lt-ltb _ _ c.if-table-i.false) (lt-ltb (get_or A.sight.now.owners.now (get_or A.table.now.entries.now l.j 0) 0) A.sight.now.splines (omega arith)) q,
    )

pub returns : goal.returns
returns c =
    let A = c.args in
    let l = c.loop-j in
    sym (l.invariant.1 ∙ over_none A.table.now.segments.now A.table.now.segment_count (sight_in A.sight.now) A.width A.e A.table.now.entries.now c.requires.b_le_e.3 l.total l.j (omega arith) c.loop-j-test.false)
