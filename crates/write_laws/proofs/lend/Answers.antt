-- `lend` meets its contract: what can be lent as f32 is known to be one, number by number.
use mathlib.Core.List.{List, [], ◌∷◌}
use Prim.Native.Nat.{ℕ, suc}
use lib.Dec.{T}
use lib.ListN.{get_or}
use lib.Ieee.{Float, nan, binary32, fits}
use Rattle.write_laws.specs.Floats.{Floats}
use Rattle.write_laws.proofs.lend.Goals as goal

floats : (xs : List Float) → ((i : ℕ) → T (fits binary32 (get_or xs i nan))) → Floats xs
floats [] f = tt
floats (x ∷ xs) f = (f 0, floats xs (λ i. f (suc i)))

pub returns : goal.returns
returns c = floats c.args.numbers.now (λ i. c.type_inv.numbers i)
