-- What a byte is, and what it makes of a text: each test of the code decides the definition's.
use mathlib.Core.Path.{◌≡◌, refl, sym, ◌∙◌}
use mathlib.Core.Bool.{true, false}
use mathlib.Core.List.{List, [], ◌∷◌}
use Prim.Native.Nat.{ℕ, ◌-◌, ◌<◌, ◌≤◌}
use native.Mathlib.Omega.{arith}
use lib.Dec.{leb}
use lib.ListN.{length, get_or, get_or-append}
use lib.Seq.{get_or-append_seam}
use borrow.Author.Tests.{eq-eqb, ne_eqb, le-leb, lt-leb}
use Rattle.text.specs.declared.Step.TheVariants.{Stranger}
use Rattle.text.specs.Text.{Scan, is_space, space_of, digit_of, step_of, ended}

pub space_one : (b : ℕ) → b ≡ 32 → true ≡ is_space b
space_one b is = rw (eq-eqb b 32 is)

pub space_none : (b : ℕ) → (b ≡ 32 → ⊥) → b < 9 → false ≡ is_space b
space_none b not-32 low = rw (ne_eqb b 32 not-32, lt-leb 9 b low)

pub space_last : (b : ℕ) → (b ≡ 32 → ⊥) → 9 ≤ b → leb b 13 ≡ is_space b
space_last b not-32 high = rw (ne_eqb b 32 not-32, le-leb 9 b high)

module _ (scan : Scan) (b : ℕ) where
  pub step_space : true ≡ is_space b → space_of scan ≡ step_of scan b
  unfolding step_of
  step_space space = rw (sym space) refl

  pub step_digit : false ≡ is_space b → 48 ≤ b → b ≤ 57 → digit_of scan (b - 48) ≡ step_of scan b
  unfolding step_of
  step_digit space low high = rw (sym space, le-leb 48 b low, le-leb b 57 high) refl

  pub step_low : false ≡ is_space b → b < 48 → Stranger ≡ step_of scan b
  unfolding step_of
  step_low space low = rw (sym space, lt-leb 48 b low)

  pub step_high : false ≡ is_space b → 48 ≤ b → 57 < b → Stranger ≡ step_of scan b
  unfolding step_of
  step_high space low high = rw (sym space, le-leb 48 b low, lt-leb b 57 high)

pub byte_inside : (text : List ℕ) (i : ℕ) {b : ℕ} → i < length text → b ≡ get_or text i 0 → b ≡ get_or (ended text) i 0
byte_inside text i h is = is ∙ sym (get_or-append text (32 ∷ []) 0 i h)

pub byte_end : (text : List ℕ) (i : ℕ) → length text ≤ i → i ≤ length text → 32 ≡ get_or (ended text) i 0
byte_end text i h g = let e : i ≡ length text = omega arith in rw e (sym (get_or-append_seam text 32 [] 0))

-- Assumes nothing.
