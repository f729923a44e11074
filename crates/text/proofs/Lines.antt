-- Line feeds, counted: as many as are left of a text of which only they stay.
use mathlib.Core.Path.{◌≡◌, refl}
use mathlib.Core.Bool.{Bool, true, false, cond}
use mathlib.Core.List.{List, [], ◌∷◌}
use Prim.Native.Nat.{ℕ, ◌+◌}
use native.Mathlib.Omega.{arith}
use lib.Dec.{eqb}
use lib.ListN.{length}
use Rattle.std.proofs.Common.{filter}
use Rattle.text.specs.Text.{feeds}

one_more : (test : Bool) (b : ℕ) (bs : List ℕ) {n : ℕ} → length bs ≡ n → length (cond test (b ∷ bs) bs) ≡ cond test 1 0 + n
one_more true b bs is = omega arith
one_more false b bs is = omega arith

pub feeds_are : (bs : List ℕ) → length (filter (λ b. eqb b 10) bs) ≡ feeds bs
unfolding feeds
feeds_are [] = refl
feeds_are (b ∷ bs) = one_more (eqb b 10) b (filter (λ b. eqb b 10) bs) (feeds_are bs)

-- Assumes nothing.
