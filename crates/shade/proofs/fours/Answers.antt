-- The next multiple of four is at most three more.
use native.Mathlib.Omega.{arith}
use Rattle.shade.proofs.fours.Goals as goal

pub returns : goal.returns
returns c = (omega arith, omega arith, omega arith)
