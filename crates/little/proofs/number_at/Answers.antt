-- `little::number_at` meets its contract: four bytes make a number below 2^32.
use mathlib.Core.Path.{◌∙◌}
use native.Mathlib.Omega.{arith}
use Rattle.little.proofs.Little.{number_is}
use Rattle.little.proofs.number_at.Goals as goal

pub returns : goal.returns
returns c =
    let a = c.args in
    c.from_le_bytes.ensures ∙ omega (arith, number_is a.bytes.now a.i (omega arith))
