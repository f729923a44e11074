-- Three passes give the intensities of each segment in its range; then each is added.
use mathlib.Core.Path.{ap, ◌∙◌}
use native.Mathlib.Omega.{arith}
use lib.ListN.{length}
use Rattle.shade.proofs.Edits.{length_edit}
use Rattle.couples.proofs.Couples.{held, added_two, still_within}
use Rattle.couples.proofs.draw_narrow.Goals as goal

pub intensities_at-requires : goal.intensities_at-requires
intensities_at-requires c = (omega arith, ap length c.roots.ensures ∙ length_edit _ _ ∙ c.squares_at.ensures.v_len)

pub intensities_at-requires-2 : goal.intensities_at-requires-2
intensities_at-requires-2 c = (omega arith, ap length c.roots-2.ensures ∙ length_edit _ _ ∙ c.squares_at-2.ensures.v_len)

pub add_in-requires-2 : goal.add_in-requires-2
add_in-requires-2 c =
    let h = c.requires.q_in in
    let e = c.add_in.ensures in
    record {
      begins = h.begins;
      ascends = h.ascends;
      narrow = h.narrow;
      within0 = still_within _ _ _ _ _ e.r0_after h.within0;
      within1 = still_within _ _ _ _ _ e.r1_after h.within1;
      within2 = still_within _ _ _ _ _ e.r2_after h.within2;
    }

pub returns : goal.returns
returns c =
    let A = c.args in
    let P = A.part in
    let v = held A.one P.y A.p.first _ _ _ _ c.squares_at.ensures.v_len (omega arith) c.squares_at.ensures.holds c.roots.ensures c.intensities_at.ensures in
    let w = held A.two P.y A.q.first _ _ _ _ c.squares_at-2.ensures.v_len (omega arith) c.squares_at-2.ensures.holds c.roots-2.ensures c.intensities_at-2.ensures in
    let e = c.add_in.ensures in
    let f = c.add_in-2.ensures in
    record {
      r0_after = added_two A.one A.two A.p A.q _ _ P.y P.x0 0 A.r0.now _ _ v w e.r0_after f.r0_after;
      r1_after = added_two A.one A.two A.p A.q _ _ P.y P.x0 1 A.r1.now _ _ v w e.r1_after f.r1_after;
      r2_after = added_two A.one A.two A.p A.q _ _ P.y P.x0 2 A.r2.now _ _ v w e.r2_after f.r2_after;
    }
