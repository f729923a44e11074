-- The calls are the definition's operations, last call first.
use Rattle.estimate.specs.Estimate.{weight_limit}
use Rattle.estimate.proofs.Greater.{max-greater}
use Rattle.estimate.proofs.weight_limit.Goals as goal

pub returns : goal.returns
unfolding weight_limit
returns c =
    rw (c.ceil.ensures, c.root.ensures, c.nearest_u64_to_f32-3.ensures, c.max.ensures, max-greater, c.nearest_u64_to_f32-2.ensures, c.nearest_u64_to_f32.ensures)
