-- `refuse`: all six buffers are wiped.
use Rattle.build_answer.specs.Answer.{refused_with}
use Rattle.build_answer.proofs.refuse.Goals as goal

pub returns : goal.returns
unfolding refused_with
returns c =
    let w = c.wipe.ensures in
    rw (w.path_after, w.walk_after, w.segments_after, w.owners_after, w.row_starts_after, w.entries_after)
