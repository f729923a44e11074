-- `cosines`: the first j of the eight cells hold their cosines.
use mathlib.Core.Path.{◌≡◌}
use Prim.Native.Nat.{◌+◌}
use lib.ListN.{length}
use Rattle.numbers.specs.Arith.{f, ◌⊕◌}
use Rattle.dequantize.specs.Coefficients.{table}
use Rattle.dequantize.proofs.Tables.{Filling}
use Rattle.eights.specs.Eights.{dct_multiplier, cosine_at}
use Rattle.eights.proofs.cosines.Given as goal

abbrev pub invariant-loop-j : goal.invariant-loop-j
invariant-loop-j l =
    (l.multipliers ≡ table (λ j. dct_multiplier (l.from + j)) 8) × (l.tandhalf ≡ l.t ⊕ f 0x3f000000) × (length l.multipliers ≡ 8) × Filling (λ j. cosine_at l.t (l.from + j)) 8 l.eight l.j
