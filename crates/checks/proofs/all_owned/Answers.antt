use mathlib.Core.Path.{sym, ap, ◌∙◌}
use mathlib.Core.Bool.{◌&&◌}
use mathlib.Core.List.{List}
use Prim.Native.Nat.{ℕ}
use native.Mathlib.Omega.{arith}
use lib.ListN.{length, get_or}
use borrow.Author.Tests.{lt-ltb, le-ltb}
use Rattle.checks.proofs.Entries.{slice_whole, not_below, not_owned, owned_on, good_none}
use Rattle.desks.specs.Desks.{all_owned}
use Rattle.checks.specs.Checks.{all_below}
use Rattle.checks.proofs.all_owned.Goals as goal

pub loop-i-init : goal.loop-i-init
loop-i-init c =
    let t = c.args.table.now in
    let s = c.args.sight.now in
    sym (ap (λ (q : List ℕ). all_below t.segment_count q && all_owned s.owners.now s.splines q) (slice_whole c.args.listed.now))

pub returns-then-table-i : goal.returns-then-table-i
returns-then-table-i c =
    let t = c.args.table.now in
    let s = c.args.sight.now in
    let l = c.loop-i in
    sym (l.invariant ∙ not_below t.segment_count s.owners.now s.splines l.i-index (length c.args.listed.now) c.args.listed.now (omega arith) (omega arith) (le-ltb _ _ (omega arith)))

pub returns-then-sight-i : goal.returns-then-sight-i
returns-then-sight-i c =
    let t = c.args.table.now in
    let s = c.args.sight.now in
    let l = c.loop-i in
    sym (l.invariant ∙ not_owned t.segment_count s.owners.now s.splines l.i-index (length c.args.listed.now) c.args.listed.now (omega arith) (omega arith) (le-ltb (get_or s.owners.now (get_or c.args.listed.now l.i-index 0) 0) s.splines (omega arith)))

pub loop-i-preserved : goal.loop-i-preserved
loop-i-preserved c =
    let t = c.args.table.now in
    let s = c.args.sight.now in
    let l = c.loop-i in
    l.invariant ∙ owned_on t.segment_count s.owners.now s.splines l.i-index (length c.args.listed.now) c.args.listed.now (omega arith) (omega arith) (lt-ltb _ _ (omega arith)) (lt-ltb (get_or s.owners.now (get_or c.args.listed.now l.i-index 0) 0) s.splines (omega arith))

pub returns : goal.returns
returns c =
    let t = c.args.table.now in
    let s = c.args.sight.now in
    let l = c.loop-i in
    sym (l.invariant ∙ good_none t.segment_count s.owners.now s.splines l.i-index (length c.args.listed.now) c.args.listed.now (omega arith) (omega arith))
