-- The columns of each segment, cut to the part; what is added in them is added as the segments list.
use native.Mathlib.Omega.{arith}
use Rattle.desks.specs.Desks.{sight_in}
use Rattle.couples.proofs.Couples.{placed, two_count, two_small, two_ranged, two_narrow, still_long}
use Rattle.couples.proofs.draw_two.Goals as goal

pub draw_columns-requires-then-max-gt32 : goal.draw_columns-requires-then-max-gt32
draw_columns-requires-then-max-gt32 c =
    let h = c.requires.fit in
    let e = c.draw_columns.ensures in
    record { fits0 = still_long _ _ _ _ e.r0_after h.fits0; fits1 = still_long _ _ _ _ e.r1_after h.fits1; fits2 = still_long _ _ _ _ e.r2_after h.fits2 }

pub overflow_add-result : goal.overflow_add-result
overflow_add-result c =
    let A = c.args in
    let s = sight_in A.sight.now in
    let P = placed s A.segments.now A.part.x0 A.part.n A.i c.hidden.ensures c.at-one.ensures c.part_of-p.ensures in
    let Q = placed s A.segments.now A.part.x0 A.part.n A.j c.hidden-2.ensures c.at-two.ensures c.part_of-q.ensures in
    omega (arith, two_small P Q)

pub returns-then-max-gt32 : goal.returns-then-max-gt32
returns-then-max-gt32 c =
    let A = c.args in
    let s = sight_in A.sight.now in
    let P = placed s A.segments.now A.part.x0 A.part.n A.i c.hidden.ensures c.at-one.ensures c.part_of-p.ensures in
    let Q = placed s A.segments.now A.part.x0 A.part.n A.j c.hidden-2.ensures c.at-two.ensures c.part_of-q.ensures in
    let e = c.draw_columns.ensures in
    let f = c.draw_columns-then-max-gt32.ensures in
    record {
      value = two_count P Q;
      r0_after = two_ranged P Q 0 A.part.y A.r0.now _ _ e.r0_after f.r0_after;
      r1_after = two_ranged P Q 1 A.part.y A.r1.now _ _ e.r1_after f.r1_after;
      r2_after = two_ranged P Q 2 A.part.y A.r2.now _ _ e.r2_after f.r2_after;
    }

pub draw_narrow-requires : goal.draw_narrow-requires
draw_narrow-requires c =
    let p = c.part_of-p.ensures in
    let q = c.part_of-q.ensures in
    record {
      p_in = record { begins = p.begins; ascends = p.ascends; narrow = omega arith; within0 = omega (arith, p.ends); within1 = omega (arith, p.ends); within2 = omega (arith, p.ends) };
      q_in = record { begins = q.begins; ascends = q.ascends; narrow = omega arith; within0 = omega (arith, q.ends); within1 = omega (arith, q.ends); within2 = omega (arith, q.ends) };
      in_image = (omega (arith, p.ends), omega (arith, q.ends));
    }

pub overflow_add-result-2 : goal.overflow_add-result-2
overflow_add-result-2 c =
    let A = c.args in
    let s = sight_in A.sight.now in
    let P = placed s A.segments.now A.part.x0 A.part.n A.i c.hidden.ensures c.at-one.ensures c.part_of-p.ensures in
    let Q = placed s A.segments.now A.part.x0 A.part.n A.j c.hidden-2.ensures c.at-two.ensures c.part_of-q.ensures in
    omega (arith, two_small P Q)

pub returns : goal.returns
returns c =
    let A = c.args in
    let s = sight_in A.sight.now in
    let P = placed s A.segments.now A.part.x0 A.part.n A.i c.hidden.ensures c.at-one.ensures c.part_of-p.ensures in
    let Q = placed s A.segments.now A.part.x0 A.part.n A.j c.hidden-2.ensures c.at-two.ensures c.part_of-q.ensures in
    let e = c.draw_narrow.ensures in
    record {
      value = two_count P Q;
      r0_after = two_narrow P Q 0 A.part.y A.r0.now _ e.r0_after;
      r1_after = two_narrow P Q 1 A.part.y A.r1.now _ e.r1_after;
      r2_after = two_narrow P Q 2 A.part.y A.r2.now _ e.r2_after;
    }
