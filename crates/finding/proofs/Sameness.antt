-- Comparing the bytes at a place with a word from the front: what is left of both decides.
use mathlib.Core.Path.{◌≡◌, sym, ap, ◌∙◌}
use mathlib.Core.Bool.{Bool, true, false, cond}
use mathlib.Core.List.{List}
use Prim.Native.Nat.{ℕ, suc, ◌+◌, ◌-◌, ◌<◌, ◌≤◌}
use native.Mathlib.Numerals.{add-one}
use lib.Dec.{eqb, leb}
use native.Mathlib.Omega.{arith}
use lib.ListN.{length, take, drop, get_or, drop_of_length-le, length-take, length-drop}
use lib.Seq.{drop-cons, get_or-take, get_or-drop}
use borrow.Author.Tests.{tests, eq-eqb, ne_eqb, leb-true, leb-false}
use Rattle.text.specs.Text.{same_of}
use Rattle.finding.specs.Finding.{stands_at}

-- what is left from byte i on decides on the whole
pub record SameLeft (a b : List ℕ) (i : ℕ) : Type 0 where
  pub rest : same_of (drop i a) (drop i b) ≡ same_of a b

module _ {a b : List ℕ} {i : ℕ} (so_far : SameLeft a b i) where
  at : {xs ys : List ℕ} → drop i a ≡ xs → drop i b ≡ ys → same_of xs ys ≡ same_of a b
  at e f = sym (ap (λ (zs : List ℕ). same_of zs (drop i b)) e ∙ ap (same_of _) f) ∙ so_far.rest

  opened : i < length a → i < length b → cond (eqb (get_or a i 0) (get_or b i 0)) (same_of (drop (suc i) a) (drop (suc i) b)) false ≡ same_of a b
  unfolding same_of
  opened inside within = at (drop-cons a i 0 inside) (drop-cons b i 0 within)

  pub same_differ : i < length a → i < length b → (get_or a i 0 ≡ get_or b i 0 → ⊥) → false ≡ same_of a b
  same_differ inside within differ = sym (ap (λ (t : Bool). cond t (same_of (drop (suc i) a) (drop (suc i) b)) false) (ne_eqb (get_or a i 0) (get_or b i 0) differ)) ∙ opened inside within

  pub same_more : i < length a → i < length b → get_or a i 0 ≡ get_or b i 0 → SameLeft a b (i + 1)
  same_more inside within is = record { rest = rw (add-one i) (sym (ap (λ (t : Bool). cond t (same_of (drop (suc i) a) (drop (suc i) b)) false) (eq-eqb (get_or a i 0) (get_or b i 0) is)) ∙ opened inside within) }

  ends : length a ≤ i → (t : Bool) → leb (length b) i ≡ t → t ≡ same_of a b
  unfolding same_of
  ends past true e = at (drop_of_length-le a {i = i} past) (drop_of_length-le b {i = i} (leb-true (length b) i e))
  ends past false e = at (drop_of_length-le a {i = i} past) (drop-cons b i 0 (leb-false (length b) i e))

-- the bytes at a place, as many as the word has
abbrev pub part : List ℕ → ℕ → List ℕ → List ℕ
part bytes at word = take (length word) (drop at bytes)

reached : (n k : ℕ) → n ≤ k → leb n k ≡ true
reached n k past = grind (arith, tests)

module _ (bytes : List ℕ) (at : ℕ) (word : List ℕ) (k : ℕ) (so_far : SameLeft (part bytes at word) word k) (room : length word ≤ length bytes - at) where
  fits : length (part bytes at word) ≡ length word
  fits = omega (arith, room, length-take (length word) (drop at bytes), length-drop at bytes)

  byte : k < length word → get_or (part bytes at word) k 0 ≡ get_or bytes (at + k) 0
  byte inside = get_or-take (length word) (drop at bytes) k 0 inside ∙ get_or-drop at bytes k 0

  pub part_differs : k < length word → (get_or bytes (at + k) 0 ≡ get_or word k 0 → ⊥) → false ≡ stands_at bytes at word
  part_differs inside differ = same_differ so_far (omega (arith, fits, inside)) inside (λ e. differ (sym (byte inside) ∙ e))

  pub part_more : k < length word → get_or bytes (at + k) 0 ≡ get_or word k 0 → SameLeft (part bytes at word) word (k + 1)
  part_more inside is = same_more so_far (omega (arith, fits, inside)) inside (byte inside ∙ is)

  pub part_ends : length word ≤ k → true ≡ stands_at bytes at word
  part_ends past = ends so_far (omega (arith, fits, past)) true (reached (length word) k past)
