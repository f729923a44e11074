-- The segment's columns are cut at the width: where none is left it is skipped, else they are joined to what was found.
use mathlib.Core.Path.{ap}
use Rattle.segments.specs.Ranges.{columns_of}
use Rattle.segments.specs.declared.Range.{Range}
use Rattle.joins.proofs.Joins.{skip_segment, join_segment}
use Rattle.joins.proofs.with_segment.Goals as goal

pub returns-then-past-first : goal.returns-then-past-first
unfolding columns_of
returns-then-past-first c =
    let A = c.args in
    let r = c.columns-columns in
    skip_segment A.found A.segment A.width r.result.first r.result.past c.min-past.result (ap (λ (q : Range). q.first) r.ensures) (ap (λ (q : Range). q.past) r.ensures) c.min-past.ensures c.if-past-first.true

pub returns : goal.returns
unfolding columns_of
returns c =
    let A = c.args in
    let r = c.columns-columns in
    join_segment A.found A.segment A.width r.result.first r.result.past c.min-past.result (ap (λ (q : Range). q.first) r.ensures) (ap (λ (q : Range). q.past) r.ensures) c.min-past.ensures c.join.ensures
