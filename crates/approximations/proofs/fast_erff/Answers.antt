-- The calls' promises joined are the definition.
use Rattle.approximations.specs.Erf.{fast_erff}
use Rattle.approximations.proofs.fast_erff.Goals as goal

pub returns : goal.returns
unfolding fast_erff
returns c = cc
