-- `buffers::put`: the part from `k` on is the list that was copied into it.
use Rattle.std.proofs.Common.{arith}
use Rattle.buffers.proofs.Fronts.{put_mid-sets}
use Rattle.buffers.proofs.put.Goals as goal

pub returns : goal.returns
returns g c = put_mid-sets _ _ _ _ c.copy_from_slice.ensures.after (omega arith) c.requires
