-- Values that begin with what words say, as a loop holds them together one by one.
use mathlib.Core.Path.{◌≡◌, sym, subst}
use mathlib.Core.Bool.{Bool, true, false}
use mathlib.Core.Logic.{⊎_elim}
use mathlib.Core.List.{List}
use Prim.Native.Nat.{ℕ, ◌+◌, ◌<◌, ◌≤◌}
use native.Mathlib.Nat.{eq-or-lt_of_le}
use native.Mathlib.Omega.{arith}
use lib.ListN.{length, get_or}

pub no_true : false ≡ true → ⊥
no_true e = subst is_false e tt
  where
    is_false : Bool → Type 0
    is_false false = Unit
    is_false true = ⊥

-- the first i values are what is said of them, one for each word
pub record Begun {A : Type 0} (none : A) (said : ℕ → A) (values : List A) (words : List ℕ) (i : ℕ) : Type 0 where
  pub words_left : i ≤ length words
  pub values_left : i ≤ length values
  pub same : (k : ℕ) → k < i → get_or values k none ≡ said k

module _ {A : Type 0} (none : A) (said : ℕ → A) (values : List A) (words : List ℕ) where
  pub begun_none : Begun none said values words 0
  begun_none = record { words_left = omega arith; values_left = omega arith; same = λ k h. absurd (omega arith) }

  module _ (i : ℕ) (b : Begun none said values words i) where
    pub begun_more : i < length words → i < length values → get_or values i none ≡ said i → Begun none said values words (i + 1)
    begun_more h l e = record {
      words_left = omega arith;
      values_left = omega arith;
      same = λ k m. ⊎_elim (λ (p : k ≡ i). subst (λ (j : ℕ). get_or values j none ≡ said j) (sym p) e) (λ n. b.same k n) (eq-or-lt_of_le {n = k} {m = i} (omega arith));
    }

    pub begun_long : length words ≤ i → length words ≤ length values
    begun_long h = omega (arith, b.values_left, b.words_left)

-- Assumes nothing.
