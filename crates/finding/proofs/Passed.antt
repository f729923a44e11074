-- A word in a drawing: it stands nowhere where too few bytes are left; and where it was not found at a place either, it is at none that was passed.
use mathlib.Core.Path.{◌≡◌, refl, sym, ◌∙◌}
use mathlib.Core.Bool.{Bool, true, false, cond}
use mathlib.Core.List.{List, [], ◌∷◌}
use Prim.Native.Nat.{ℕ, ◌+◌, ◌-◌, ◌<◌, ◌≤◌}
use native.Mathlib.Omega.{arith}
use borrow.Author.Count.{below_more}
use lib.Dec.{eqb}
use lib.ListN.{length, take, drop, length-take, length-drop}
use Rattle.std.specs.Prelude.{Option, Some, None, IfSome, unwrap_or}
use Rattle.text.specs.Text.{same_of}
use Rattle.finding.specs.Finding.{stands_at, FirstFrom}

either_way : (t : Bool) {s : Bool} → false ≡ s → false ≡ cond t s false
either_way true e = e
either_way false e = refl

-- a text is not the same as a longer one
same_longer : (xs ys : List ℕ) → length xs < length ys → false ≡ same_of xs ys
unfolding same_of
same_longer [] [] less = absurd (omega (arith, less))
same_longer [] (y ∷ ys) less = refl
same_longer (x ∷ xs) [] less = absurd (omega (arith, less))
same_longer (x ∷ xs) (y ∷ ys) less = either_way (eqb x y) (same_longer xs ys (omega (arith, less)))

pub too_short : (bytes : List ℕ) (at : ℕ) (word : List ℕ) → length bytes - at < length word → false ≡ stands_at bytes at word
too_short bytes at word less = same_longer (take (length word) (drop at bytes)) word (omega (arith, less, length-take (length word) (drop at bytes), length-drop at bytes))

-- the word is at no place from the start on and before this one
pub record Missing (bytes : List ℕ) (start : ℕ) (word : List ℕ) (at : ℕ) : Type 0 where
  pub so_far : (k : ℕ) → k < at → start ≤ k → stands_at bytes k word ≡ true → ⊥

module _ {bytes word : List ℕ} {start : ℕ} where
  pub missing_none : Missing bytes start word start
  missing_none = record { so_far = λ k less from is. absurd (omega (arith, less, from)) }

  pub missing_more : {at : ℕ} {r : Bool} → Missing bytes start word at → r ≡ stands_at bytes at word → r ≡ false → Missing bytes start word (at + 1)
  missing_more {at} m e not = record { so_far = below_more (λ k. start ≤ k → stands_at bytes k word ≡ true → ⊥) at m.so_far (λ from is. cc) }

  pub found : {at : ℕ} {r : Bool} → Missing bytes start word at → r ≡ stands_at bytes at word → r ≡ true → FirstFrom bytes start word at
  found m e is = record { before = λ k from less. m.so_far k less from; there = λ _. sym e ∙ is }

  pub nowhere : {at : ℕ} → Missing bytes start word at → length bytes ≤ at → FirstFrom bytes start word at
  nowhere m past = record { before = λ k from less. m.so_far k less from; there = λ less. absurd (omega (arith, less, past)) }

-- a place that is found behind this one, or the end where none is found, is behind it
pub passes : (r : Option ℕ) {at n u : ℕ} → at < n → IfSome r (λ k. (at + 1 ≤ k) × (k < n)) → u ≡ unwrap_or r n → (at < u) × (u ≤ n)
passes None less within is = (omega (arith, less, is), omega (arith, is))
passes (Some k) less within is = (omega (arith, within.0, is), omega (arith, within.1, is))

-- Assumes nothing.
