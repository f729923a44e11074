-- An unknown number is refused; a known one is drawn among 16 records, which begin at its multiple of 16.
use mathlib.Core.Path.{refl, sym, ◌∙◌}
use native.Mathlib.Omega.{arith}
use Rattle.segments.specs.Segment.{segment_at}
use Rattle.draw.specs.Draw.{three}
use Rattle.records.specs.Records.{is_known}
use Rattle.alone.proofs.Alone.{not_known}
use Rattle.records.proofs.Alone.{known_facts, in_16}
use lib.ListN.{replicate}
use Rattle.records.proofs.draw_by_records.Goals as goal

pub returns-then-not-is_known : goal.returns-then-not-is_known
returns-then-not-is_known c =
    let A = c.args in
    not_known (is_known A.flat.now A.count A.i) (segment_at A.flat.now A.i) A.y A.x0 A.n (three A.r0.now A.r1.now A.r2.now) (sym c.is_known.ensures ∙ c.if-not-is_known.true)

pub overflow_mul-first-2 : goal.overflow_mul-first-2
overflow_mul-first-2 c =
    let A = c.args in
    let k = known_facts A.flat.now A.count A.i (sym c.is_known.ensures ∙ c.if-not-is_known.false) in
    omega arith

pub offset_bounds-flat-first : goal.offset_bounds-flat-first
offset_bounds-flat-first c =
    let A = c.args in
    let k = known_facts A.flat.now A.count A.i (sym c.is_known.ensures ∙ c.if-not-is_known.false) in
    omega arith

pub slice_bounds-draw_in_16-count : goal.slice_bounds-draw_in_16-count
slice_bounds-draw_in_16-count c =
    let A = c.args in
    let k = known_facts A.flat.now A.count A.i (sym c.is_known.ensures ∙ c.if-not-is_known.false) in
    omega arith

pub slice_bounds-draw_in_16-start : goal.slice_bounds-draw_in_16-start
slice_bounds-draw_in_16-start c =
    let A = c.args in
    let k = known_facts A.flat.now A.count A.i (sym c.is_known.ensures ∙ c.if-not-is_known.false) in
    omega arith

pub overflow_sub-count : goal.overflow_sub-count
overflow_sub-count c =
    let A = c.args in
    let k = known_facts A.flat.now A.count A.i (sym c.is_known.ensures ∙ c.if-not-is_known.false) in
    omega arith

pub returns : goal.returns
returns c =
    let A = c.args in
    let e = sym c.is_known.ensures ∙ c.if-not-is_known.false in
    c.draw_in_16.ensures
    ∙ in_16 A.flat.now (replicate 16 0) A.count A.i _ A.y A.x0 A.n (three A.r0.now A.r1.now A.r2.now) refl e (omega arith) (omega arith)
