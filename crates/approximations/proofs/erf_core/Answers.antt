-- The body is the definition, operation for operation.
use mathlib.Core.Path.{refl}
use Rattle.approximations.specs.Erf.{erf_core}
use Rattle.approximations.proofs.erf_core.Goals as goal

pub returns : goal.returns
unfolding erf_core
returns c = refl
