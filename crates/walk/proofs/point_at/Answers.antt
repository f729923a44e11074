-- `walk::point_at`: two reads, as the definition has them.
use mathlib.Core.Path.{refl}
use Rattle.walk.specs.Walk.{point_at}
use Rattle.walk.proofs.point_at.Goals as goal

pub returns : goal.returns
unfolding point_at
returns c = refl
