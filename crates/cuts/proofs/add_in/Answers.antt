-- The part of each channel that holds the range comes back with the segment added.
use Rattle.cuts.proofs.Cuts.{added_part}
use Rattle.cuts.proofs.add_in.Goals as goal

pub returns : goal.returns
returns c =
    let A = c.args in
    let h = c.requires in
    let e = c.add.ensures in
    record {
      r0_after = added_part A.segment A.range A.locals.now A.x0 0 A.r0.now _ h.begins h.ascends h.within0 e.r0_after;
      r1_after = added_part A.segment A.range A.locals.now A.x0 1 A.r1.now _ h.begins h.ascends h.within1 e.r1_after;
      r2_after = added_part A.segment A.range A.locals.now A.x0 2 A.r2.now _ h.begins h.ascends h.within2 e.r2_after;
    }
