-- The columns of the segment are those that it has.
use Rattle.columns.proofs.Columns.{count_columns, draw_columns}
use Rattle.columns.proofs.draw_segment.Goals as goal

pub returns : goal.returns
returns c =
    let A = c.args in
    let P = A.part in
    let p = c.at-segment.ensures in
    let q = c.columns.ensures in
    let e = c.draw_columns.ensures in
    let h = P.in_image.0 in
    record {
      value = count_columns A.segments.now A.i P.x0 P.n _ _ _ p q h e.value;
      r0_after = draw_columns 0 A.segments.now A.i P.y P.x0 P.n _ _ _ _ p q h e.r0_after;
      r1_after = draw_columns 1 A.segments.now A.i P.y P.x0 P.n _ _ _ _ p q h e.r1_after;
      r2_after = draw_columns 2 A.segments.now A.i P.y P.x0 P.n _ _ _ _ p q h e.r2_after;
    }
