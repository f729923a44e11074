-- `DCT_MULTIPLIERS`: its rule, computed once over all 32 entries, eight an arm.
use mathlib.Core.Path.{refl}
use native.Mathlib.Omega.{arith}
use lib.Ieee.{mul, div, of_int, of_bits}
use Rattle.dequantize.specs.Coefficients.{table}
use Rattle.eights.specs.Eights.{dct_multiplier}
use Rattle.eights.proofs.Feeding.{eight_is, last_eighth}
use Rattle.eights.proofs.dct_multipliers.Goals as goal

pub returns-in-0 : goal.returns-in-0
unfolding table dct_multiplier mul div of_int of_bits
returns-in-0 c = eight_is _ 0 c.in-0.is refl

pub returns-in-8 : goal.returns-in-8
unfolding table dct_multiplier mul div of_int of_bits
returns-in-8 c = eight_is _ 8 c.in-8.is refl

pub returns-in-16 : goal.returns-in-16
unfolding table dct_multiplier mul div of_int of_bits
returns-in-16 c = eight_is _ 16 c.in-16.is refl

pub returns-in_default : goal.returns-in_default
unfolding table dct_multiplier mul div of_int of_bits
returns-in_default c =
    eight_is _ 24 (last_eighth c.args.from c.requires.0 c.requires.1 (omega arith) (omega arith) (omega arith)) refl
