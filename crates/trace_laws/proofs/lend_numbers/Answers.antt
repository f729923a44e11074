-- `lend_numbers` meets its contract: what can be lent is known to be in range, number by number.
use mathlib.Core.List.{List, [], ◌∷◌}
use Prim.Native.Nat.{ℕ, suc, ◌^◌, ◌<◌}
use lib.ListN.{get_or}
use Rattle.little.specs.Little.{Numbers}
use Rattle.trace_laws.proofs.lend_numbers.Goals as goal

each : (xs : List ℕ) → ((i : ℕ) → get_or xs i 0 < 2 ^ 32) → Numbers xs
each [] f = tt
each (x ∷ xs) f = (f 0, each xs (λ i. f (suc i)))

pub returns : goal.returns
returns c = each c.args.numbers.now (λ i. (c.type_inv.numbers i).fits)
