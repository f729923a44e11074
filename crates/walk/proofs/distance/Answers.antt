-- `walk::distance`: the root's promise is the definition.
use Rattle.walk.specs.Walk.{distance_of}
use Rattle.walk.proofs.distance.Goals as goal

pub returns : goal.returns
unfolding distance_of
returns c = c.root.ensures
