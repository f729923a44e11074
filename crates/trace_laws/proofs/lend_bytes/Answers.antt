-- `lend_bytes` meets its contract: what can be lent is known to be in range, number by number.
use mathlib.Core.List.{List, [], ◌∷◌}
use Prim.Native.Nat.{ℕ, suc, ◌<◌}
use lib.ListN.{get_or}
use Rattle.little.specs.Little.{Bytes}
use Rattle.trace_laws.proofs.lend_bytes.Goals as goal

each : (xs : List ℕ) → ((i : ℕ) → get_or xs i 0 < 256) → Bytes xs
each [] f = tt
each (x ∷ xs) f = (f 0, each xs (λ i. f (suc i)))

pub returns : goal.returns
returns c = each c.args.bytes.now (λ i. (c.type_inv.bytes i).fits)
