-- `wipe_unused`: the working cells, then what is behind the count.
use Prim.Native.Nat.{◌*◌}
use lib.Ieee.{binary32, of_bits}
use Rattle.buffers.proofs.Blanks.{blank_behind}
use Rattle.wipe.proofs.wipe_unused.Goals as goal

pub returns-clause-segments_after : goal.returns-clause-segments_after
returns-clause-segments_after c = blank_behind (8 * c.args.count) (of_bits binary32 0) c.args.segments.now c.clear.ensures

pub returns-clause-owners_after : goal.returns-clause-owners_after
returns-clause-owners_after c = blank_behind c.args.count 0 c.args.owners.now c.clear-2.ensures
