-- The columns are cut to the part; where any are left, the part of each channel that holds them comes back with the segment added.
use native.Mathlib.Omega.{arith}
use Rattle.shade.specs.Shade.{shaded}
use Rattle.columns.proofs.Columns.{count_between, ranged_none, ranged_part}
use Rattle.columns.proofs.draw_columns.Goals as goal

pub returns-then-to-from : goal.returns-then-to-from
returns-then-to-from c =
    let A = c.args in
    let P = A.part in
    let r = A.columns in
    record {
      value = omega (arith, count_between r.first r.past P.x0 P.n);
      r0_after = ranged_none (λ x v. shaded A.segment P.y x 0 v) _ r.first r.past P.x0 P.n (omega arith);
      r1_after = ranged_none (λ x v. shaded A.segment P.y x 1 v) _ r.first r.past P.x0 P.n (omega arith);
      r2_after = ranged_none (λ x v. shaded A.segment P.y x 2 v) _ r.first r.past P.x0 P.n (omega arith);
    }

pub returns : goal.returns
returns c =
    let A = c.args in
    let P = A.part in
    let r = A.columns in
    let from = c.max-from in
    let to = c.min-to in
    let e = c.add_segment.ensures in
    let h = c.requires in
    record {
      value = omega (arith, count_between r.first r.past P.x0 P.n);
      r0_after = ranged_part (λ x v. shaded A.segment P.y x 0 v) A.r0.now _ r.first r.past P.x0 P.n from.result to.result from.ensures to.ensures c.if-to-from.false h.fits0 e.r0_after;
      r1_after = ranged_part (λ x v. shaded A.segment P.y x 1 v) A.r1.now _ r.first r.past P.x0 P.n from.result to.result from.ensures to.ensures c.if-to-from.false h.fits1 e.r1_after;
      r2_after = ranged_part (λ x v. shaded A.segment P.y x 2 v) A.r2.now _ r.first r.past P.x0 P.n from.result to.result from.ensures to.ensures c.if-to-from.false h.fits2 e.r2_after;
    }
