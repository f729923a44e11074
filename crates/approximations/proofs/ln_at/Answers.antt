-- The body is the definition, operation for operation.
use mathlib.Core.Path.{refl}
use Rattle.approximations.specs.Ln.{ln_at}
use Rattle.approximations.proofs.ln_at.Goals as goal

pub returns : goal.returns
unfolding ln_at
returns c = refl
