-- The invariant: the first i cells have gained.
use Rattle.std.proofs.Common.{◌≡◌, length}
use Rattle.dequantize.specs.Coefficients.{gained_at}
use Rattle.dequantize.proofs.Tables.{Filling}
use Rattle.dequantize.proofs.coefficients.gained.Given as goal

abbrev pub invariant-loop-i : goal.invariant-loop-i
invariant-loop-i l = (length l.x ≡ 32) × (length l.y ≡ 32) × Filling (gained_at l.x l.k l.y) 32 l.out l.i
