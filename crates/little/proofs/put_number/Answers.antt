-- `little::put_number` meets its contract: the four bytes come back where they were lent.
use mathlib.Core.Path.{refl, ◌∙◌}
use Prim.Native.Nat.{◌+◌, ◌*◌}
use Rattle.buffers.proofs.Fronts.{put_mid-sets}
use Rattle.little.specs.Little.{four_of}
use Rattle.little.proofs.put_number.Goals as goal

pub returns : goal.returns
returns c =
    let a = c.args in
    put_mid-sets (four_of a.number) a.bytes.now (4 * a.i) (4 * a.i + 4) (c.copy_from_slice.ensures.after ∙ c.to_le_bytes.ensures) refl c.requires
