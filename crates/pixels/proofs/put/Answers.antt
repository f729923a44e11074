-- `pixels::put`: the part from `at` on is the list that was copied into it.
use native.Mathlib.Omega.{arith}
use Rattle.buffers.proofs.Fronts.{put_mid-sets}
use Rattle.pixels.proofs.put.Goals as goal

pub returns : goal.returns
returns g c = put_mid-sets _ _ _ _ c.copy_from_slice.ensures.after (omega arith) c.requires
