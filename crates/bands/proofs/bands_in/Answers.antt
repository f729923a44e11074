-- A division by 64, rounded up.
use native.Mathlib.Omega.{arith}
use Rattle.bands.specs.Bands.{bands_in}
use Rattle.bands.proofs.bands_in.Goals as goal

pub returns : goal.returns
unfolding bands_in
returns c = omega arith
