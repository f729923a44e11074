-- The place of TEXT: every stage can go on to a text of the form, so the bytes before the place begin one.
use mathlib.Core.Path.{◌≡◌, refl, ap, ◌∙◌}
use mathlib.Core.Bool.{Bool, true, false, cond}
use mathlib.Core.List.{List, [], ◌∷◌, ◌++◌}
use Prim.Native.Nat.{ℕ, zero, suc, ◌+◌, ◌≤◌}
use native.Mathlib.Omega.{arith}
use lib.ListN.{length, take}
use Rattle.codes.proofs.Refusals.{same_refusal}
use Rattle.codes.specs.declared.Code.TheVariants.{Text}
use Rattle.write_judge.specs.Verdict.{Fine, Fault}
use Rattle.polyline.specs.declared.Stage.{Stage}
use Rattle.polyline.specs.declared.Stage.TheVariants as S
use Rattle.polyline.specs.Step.{Step, To, Stranger}
use Rattle.polyline.specs.Stages.{next_of, may_end, follow, text_from, text_of}
use Rattle.polyline_laws.specs.Begins.{FormJudged, FirstBadByte}
use Rattle.polyline_laws.proofs.Forms.{form_passes, bad_byte, no_form}
use Rattle.polyline_laws.proofs.Passes.{passes_form}

-- how each stage may go on
abbrev rest : Stage → List ℕ
rest (S.Fresh false) = 48 ∷ 44 ∷ 48 ∷ []
rest (S.Minus false) = 49 ∷ 44 ∷ 48 ∷ []
rest (S.Nought false) = 44 ∷ 48 ∷ []
rest (S.Digits false) = 44 ∷ 48 ∷ []
rest (S.Fresh true) = 48 ∷ []
rest (S.Minus true) = 49 ∷ []
rest (S.Nought true) = []
rest (S.Digits true) = []

rest_passes : (s : Stage) (at : ℕ) → text_from s at (rest s) ≡ Fine
unfolding text_from next_of may_end
rest_passes (S.Fresh false) at = refl
rest_passes (S.Minus false) at = refl
rest_passes (S.Nought false) at = refl
rest_passes (S.Digits false) at = refl
rest_passes (S.Fresh true) at = refl
rest_passes (S.Minus true) at = refl
rest_passes (S.Nought true) at = refl
rest_passes (S.Digits true) at = refl

pub record GoesOn (s : Stage) (at : ℕ) (text : List ℕ) (k : ℕ) : Type 0 where
  pub more : List ℕ
  pub inside : k ≤ length text
  pub passes : text_from s at (take k text ++ more) ≡ Fine

goes_on : (text : List ℕ) (s : Stage) (at k : ℕ) → text_from s at text ≡ Fault Text (at + k) → GoesOn s at text k
unfolding text_from
goes_on text s at zero e = record { more = rest s; inside = omega arith; passes = rest_passes s at }
goes_on [] s at (suc j) e = absurd (go (may_end s) e)
  where
    go : (b : Bool) → cond b Fine (Fault Text at) ≡ Fault Text (at + suc j) → ⊥
    go true e = let z : ◌≡◌ {A = ℕ} 0 1 = cc in omega arith
    go false e = let z : at ≡ at + suc j = (same_refusal e).1 in omega arith
goes_on (b ∷ bs) s at (suc j) e = go (next_of s b) refl e (λ t f. goes_on bs t (suc at) j f)
  where
    go : (n : Step) → next_of s b ≡ n → follow at n (λ t. text_from t (suc at) bs) ≡ Fault Text (at + suc j)
        → ((t : Stage) → text_from t (suc at) bs ≡ Fault Text (suc at + j) → GoesOn t (suc at) bs j) → GoesOn s at (b ∷ bs) (suc j)
    go (To t) x e f =
        let m : at + suc j ≡ suc at + j = omega arith in
        let g = f t (rw m at e) in
        record { more = g.more; inside = omega (arith, g.inside); passes = rw x g.passes }
    go Stranger x e f = let z : at ≡ at + suc j = (same_refusal e).1 in absurd (omega arith)

pub form_judged : FormJudged
unfolding text_of
form_judged text = (λ f. form_passes text 0 f, λ e. passes_form text e)

pub first_bad_byte : FirstBadByte
unfolding text_of
first_bad_byte text place e =
    let g = goes_on text (S.Fresh false) 0 place (e ∙ ap (λ (j : ℕ). Fault Text j) (omega arith)) in
    record {
      inside = g.inside;
      before = record { rest = g.more; form = passes_form (take place text ++ g.more) g.passes };
      with = λ h b. bad_byte text place e h b;
      whole = λ f. no_form text place e f;
    }

-- Assumes nothing.
