-- The body is the definition, operation for operation.
use mathlib.Core.Path.{refl}
use Rattle.approximations.specs.Cos.{cos_core}
use Rattle.approximations.proofs.cos_core.Goals as goal

pub returns : goal.returns
unfolding cos_core
returns c = refl
