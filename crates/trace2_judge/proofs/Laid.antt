-- Laws of judging a file of version 2: its checks one after the other.
use mathlib.Core.Path.{◌≡◌, refl, sym, ap, ◌∙◌}
use mathlib.Core.Bool.{true, false}
use mathlib.Core.List.{List, [], ◌∷◌, ◌++◌}
use Prim.Native.Nat.{ℕ, ◌≤◌, ◌<◌}
use borrow.Author.Tests.{lt-ltb, le-ltb}
use Rattle.codes.specs.declared.Code.{Code}
use Rattle.codes.specs.declared.Code.TheVariants.{Short, Edition}
use Rattle.writer.specs.Write.{Check, check, first_fault}
use Rattle.write_judge.specs.Verdict.{Fine, Fault}
use Rattle.write_judge.proofs.Checks.{fails, passes, passed, faults_before, fine_before, both_fine}
use Rattle.trace.specs.Read.{offset_checks, body_checks}
use Rattle.trace2.specs.Editions.{unknown}
use Rattle.trace2.specs.Read.{laid_checks}

pub edition_fault : (e : ℕ) → unknown e ≡ true → Fault Edition 32 ≡ first_fault (check (unknown e) Edition 32 ∷ [])
edition_fault e h = sym (fails _ Edition 32 [] h)

pub edition_fine : (e : ℕ) → unknown e ≡ false → Fine ≡ first_fault (check (unknown e) Edition 32 ∷ [])
unfolding first_fault
edition_fine e h = rw h

module _ (e size : ℕ) (ns : List ℕ) where
  abbrev Head : List Check
  Head = offset_checks 9 ns ++ (check (unknown e) Edition 32 ∷ [])

  pub laid_short : size < 36 → Fault Short size ≡ first_fault (laid_checks 9 e size ns)
  unfolding laid_checks
  laid_short h = sym (fails _ Short size _ (lt-ltb size 36 h))

  module _ (long : 36 ≤ size) where
    -- the edition stands at the end of the header's checks
    laid_after : first_fault (laid_checks 9 e size ns) ≡ first_fault (Head ++ body_checks 9 size ns)
    unfolding laid_checks
    laid_after = passes _ Short size _ (le-ltb size 36 long) ∙ ap first_fault (sym (regrouped (offset_checks 9 ns)))
      where
        regrouped : (xs : List Check) → (xs ++ (check (unknown e) Edition 32 ∷ [])) ++ body_checks 9 size ns ≡ xs ++ (check (unknown e) Edition 32 ∷ body_checks 9 size ns)
        regrouped [] = refl
        regrouped (x ∷ xs) = ap (λ (t : List Check). x ∷ t) (regrouped xs)

    pub laid_header : (c : Code) (q : ℕ) → first_fault Head ≡ Fault c q → Fault c q ≡ first_fault (laid_checks 9 e size ns)
    laid_header c q f = sym (laid_after ∙ faults_before Head _ c q f)

    pub laid_body : first_fault Head ≡ Fine → first_fault (body_checks 9 size ns) ≡ first_fault (laid_checks 9 e size ns)
    laid_body f = sym (laid_after ∙ fine_before Head _ f)

  -- no fault: none behind the header
  pub laid_sound : first_fault (laid_checks 9 e size ns) ≡ Fine → first_fault (body_checks 9 size ns) ≡ Fine
  unfolding laid_checks
  laid_sound f =
      let a = passed _ Short size _ f in
      let b = both_fine (offset_checks 9 ns) _ a.1 in
      (passed _ Edition 32 _ b.1).1

-- Assumes nothing.
