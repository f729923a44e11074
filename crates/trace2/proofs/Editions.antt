-- Laws of versions and editions: the numbers that are one, and the tests that the code makes.
use mathlib.Core.Path.{◌≡◌, refl, sym, subst, ◌∙◌}
use mathlib.Core.Bool.{Bool, true, false, not, ◌||◌, ◌&&◌}
use mathlib.Core.Logic.{◌⊎◌, inl, inr}
use Prim.Native.Nat.{ℕ}
use lib.Dec.{T, eqb}
use borrow.Author.Tests.{eq-eqb, ne_eqb, eqb-true}
use Rattle.trace2.specs.Editions.{unknown, header_long}
use Rattle.trace2.specs.Write.{barred}

-- 1 and 2 are known, and nothing else is
pub one_known : (n : ℕ) → n ≡ 1 → false ≡ unknown n
unfolding unknown
one_known n e = rw (eq-eqb n 1 e)

pub two_known : (n : ℕ) → n ≡ 2 → false ≡ unknown n
unfolding unknown
two_known n e = rw (e)

pub but_one : (n : ℕ) → (n ≡ 1 → ⊥) → not (eqb n 2) ≡ unknown n
unfolding unknown
but_one n f = rw (ne_eqb n 1 f)

pub neither_known : (n : ℕ) → (n ≡ 1 → ⊥) → (n ≡ 2 → ⊥) → unknown n ≡ true
unfolding unknown
neither_known n f g = rw (ne_eqb n 1 f, ne_eqb n 2 g)

pub known_is : (n : ℕ) → unknown n ≡ false → (n ≡ 1) ⊎ (n ≡ 2)
unfolding unknown
known_is n h = go (eqb n 1) (eqb n 2) refl refl h
  where
    go : (a b : Bool) → eqb n 1 ≡ a → eqb n 2 ≡ b → not (a || b) ≡ false → (n ≡ 1) ⊎ (n ≡ 2)
    go true b x y h = inl (eqb-true n 1 x)
    go false true x y h = inr (eqb-true n 2 y)
    go false false x y h = absurd (subst T h tt)

pub unknown_not : (n : ℕ) → unknown n ≡ true → (n ≡ 1 → ⊥) × (n ≡ 2 → ⊥)
unknown_not n h = (λ e. subst T (sym h ∙ sym (one_known n e)) tt, λ e. subst T (sym h ∙ sym (two_known n e)) tt)

-- an edition that a version may not have: as it is tested
pub barred_unknown : (v e : ℕ) → unknown e ≡ true → true ≡ barred v e
unfolding barred
barred_unknown v e h = rw h

pub barred_first : (v e : ℕ) → unknown e ≡ false → v ≡ 1 → eqb e 2 ≡ barred v e
unfolding barred
barred_first v e h o = rw (h, eq-eqb v 1 o)

pub barred_other : (v e : ℕ) → unknown e ≡ false → (v ≡ 1 → ⊥) → false ≡ barred v e
unfolding barred
barred_other v e h n = rw (h, ne_eqb v 1 n)

-- what is not barred: a known edition, and 1 in version 1
pub free_known : (v e : ℕ) → barred v e ≡ false → unknown e ≡ false
unfolding barred
free_known v e h = go (unknown e) refl h
  where
    go : (a : Bool) → unknown e ≡ a → (a || (eqb v 1 && eqb e 2)) ≡ false → unknown e ≡ false
    go true x h = absurd (subst T h tt)
    go false x h = x

pub free_first : (v e : ℕ) → barred v e ≡ false → v ≡ 1 → e ≡ 1
free_first v e h o = go (known_is e (free_known v e h))
  where
    go : (e ≡ 1) ⊎ (e ≡ 2) → e ≡ 1
    go (inl a) = a
    go (inr a) = absurd (subst T (sym (eq-eqb e 2 a) ∙ barred_first v e (free_known v e h) o ∙ h) tt)

-- how many numbers the header has
pub nine : (v : ℕ) → v ≡ 2 → header_long v ≡ 9
nine v e = rw (eq-eqb v 2 e)

pub eight : (v : ℕ) → (v ≡ 2 → ⊥) → header_long v ≡ 8
eight v n = rw (ne_eqb v 2 n)

-- Assumes nothing.
