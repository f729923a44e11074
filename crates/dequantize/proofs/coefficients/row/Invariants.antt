-- The invariant: the first i cells hold the coefficients.
use Rattle.dequantize.specs.Coefficients.{coefficient_at}
use Rattle.dequantize.proofs.Tables.{Filling}
use Rattle.dequantize.proofs.coefficients.row.Given as goal

abbrev pub invariant-loop-i : goal.invariant-loop-i
invariant-loop-i l = Filling (coefficient_at l.c l.from l.weight l.quant) 32 l.out l.i
