-- The first check that fails: a fault of a list of checks is one of its head or of the rest, and a fault of numbers is the first that fails.
use mathlib.Core.Path.{◌≡◌, refl, sym, ap, subst, ◌∙◌}
use mathlib.Core.Bool.{Bool, true, false}
use mathlib.Core.List.{List, [], ◌∷◌, ◌++◌}
use Prim.Native.Nat.{ℕ, zero, suc, ◌+◌, ◌*◌, ◌<◌}
use native.Mathlib.Nat.{not-suc-le-zero, le_of_suc-le-suc}
use native.Mathlib.Omega.{arith}
use lib.ListN.{length, get_or}
use Rattle.codes.specs.declared.Code.{Code}
use Rattle.codes.proofs.Refusals.{same_refusal}
use Rattle.writer.specs.Write.{Check, check, first_fault}
use Rattle.write_judge.specs.Verdict.{Verdict}
use Rattle.write_judge.specs.Verdict.{Fine, Fault}
use Rattle.write_judge.proofs.Checks.{fails, passes, faults_before, fine_before}
use Rattle.trace.specs.Trace.{number_checks}

module _ (R : Code → ℕ → Type 0) (c : Code) (q : ℕ) where
  pub head_or : (b : Bool) (k : Code) (p : ℕ) (rest : List Check) → first_fault (check b k p ∷ rest) ≡ Fault c q
      → (b ≡ true → R k p) → (b ≡ false → first_fault rest ≡ Fault c q → R c q) → R c q
  unfolding first_fault
  head_or true k p rest e f g =
      let same = same_refusal e in
      subst (λ (d : Code). R d q) same.0 (subst (R k) same.1 (f refl))
  head_or false k p rest e f g = g refl e

  pub append_or : (xs ys : List Check) → first_fault (xs ++ ys) ≡ Fault c q
      → (first_fault xs ≡ Fault c q → R c q) → (first_fault xs ≡ Fine → first_fault ys ≡ Fault c q → R c q) → R c q
  append_or xs ys e f g = go (first_fault xs) refl
    where
      go : (v : Verdict) → first_fault xs ≡ v → R c q
      go Fine w = g w (sym (fine_before xs ys w) ∙ e)
      go (Fault k p) w = f (w ∙ sym (faults_before xs ys k p w) ∙ e)

  pub none_or : first_fault [] ≡ Fault c q → R c q
  unfolding first_fault
  none_or e = let z : ◌≡◌ {A = ℕ} 0 1 = cc in absurd (omega arith)

  module _ {A : Type 0} (test : A → Bool) (code : Code) (d : A) where
    pub numbers_or : (xs : List A) (k : ℕ) → first_fault (number_checks test code k xs) ≡ Fault c q
        → ((i : ℕ) → i < length xs → ((j : ℕ) → j < i → test (get_or xs j d) ≡ false) → test (get_or xs i d) ≡ true → R code (4 * (k + i))) → R c q
    unfolding number_checks
    numbers_or [] k e f = none_or e
    numbers_or (x ∷ xs) k e f =
        head_or (test x) code (4 * k) (number_checks test code (suc k) xs) e
        (λ t. subst (R code) (at k) (f 0 (omega arith) (λ j h. absurd (not-suc-le-zero h)) t))
        (λ t r. numbers_or xs (suc k) r (λ i h n u. subst (R code) (next k i) (f (suc i) (omega arith) (before t i n) u)))
      where
        at : (k : ℕ) → 4 * (k + 0) ≡ 4 * k
        at k = omega arith

        next : (k i : ℕ) → 4 * (k + suc i) ≡ 4 * (suc k + i)
        next k i = omega arith

        before : test x ≡ false → (i : ℕ) → ((j : ℕ) → j < i → test (get_or xs j d) ≡ false) → (j : ℕ) → j < suc i → test (get_or (x ∷ xs) j d) ≡ false
        before t i n zero h = t
        before t i n (suc j) h = n j (le_of_suc-le-suc h)

-- and back: the first of the numbers that fails is the fault
pub numbers_at : {A : Type 0} (test : A → Bool) (code : Code) (d : A) (xs : List A) (k i : ℕ) → i < length xs → ((j : ℕ) → j < i → test (get_or xs j d) ≡ false)
    → test (get_or xs i d) ≡ true → first_fault (number_checks test code k xs) ≡ Fault code (4 * (k + i))
unfolding number_checks
numbers_at test code d [] k i h n t = absurd (not-suc-le-zero h)
numbers_at test code d (x ∷ xs) k zero h n t = fails (test x) code (4 * k) _ t ∙ ap (Fault code) (omega arith)
numbers_at test code d (x ∷ xs) k (suc i) h n t =
    passes (test x) code (4 * k) _ (n 0 (omega arith))
    ∙ numbers_at test code d xs (suc k) i (le_of_suc-le-suc h) (λ j g. n (suc j) (omega arith)) t
    ∙ ap (Fault code) (omega arith)

-- Assumes nothing.
