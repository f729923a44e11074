-- The zero of f32 is plus zero.
use mathlib.Core.Path.{refl}
use Rattle.buffers.proofs.F32Zero.ZERO.Goals as goal

pub returns : goal.returns
returns c = refl
