-- A text that passes has the form: what is left at each stage is what the grammar asks for there.
use mathlib.Core.Path.{◌≡◌, refl, sym, ap, subst}
use mathlib.Core.Bool.{Bool, true, false, cond}
use mathlib.Core.List.{List, [], ◌∷◌, ◌++◌, append_assoc}
use Prim.Native.Nat.{ℕ, suc}
use lib.Dec.{eqb, leb}
use borrow.Author.Tests.{eqb-true, leb-true}
use Rattle.codes.specs.declared.Code.TheVariants.{Text}
use Rattle.write_judge.specs.Verdict.{Verdict}
use Rattle.write_judge.specs.Verdict.{Fine, Fault}
use Rattle.polyline.specs.declared.Stage.{Stage}
use Rattle.polyline.specs.declared.Stage.TheVariants as S
use Rattle.polyline.specs.Step.{To, Stranger}
use Rattle.polyline.specs.Form.{IsDigit, IsLeading, Digits, Number, nought, plain, minus, pair, PointsForm, last, more}
use Rattle.polyline.specs.Stages.{lead_of, begin_of, end_of, next_of, may_end, follow, text_from, text_of}

never : {X : Type 0} (at : ℕ) → Fault Text at ≡ Fine → X
never at e = cc

-- ---- a byte that passes, by stage

module _ {X : Type 0} (y : Bool) (b at : ℕ) (go : Stage → Verdict) where
  lead_case : follow at (lead_of y b) go ≡ Fine → (IsLeading b → go (S.Digits y) ≡ Fine → X) → X
  lead_case e k = case (leb 49 b) (leb b 57) refl refl e
    where
      case : (l h : Bool) → leb 49 b ≡ l → leb b 57 ≡ h → follow at (cond (cond l h false) (To (S.Digits y)) Stranger) go ≡ Fine → X
      case true true x z e = k (leb-true 49 b x, leb-true b 57 z) e
      case true false x z e = never at e
      case false h x z e = never at e

  begin_case : follow at (begin_of y b) go ≡ Fine → (b ≡ 45 → go (S.Minus y) ≡ Fine → X) → (b ≡ 48 → go (S.Nought y) ≡ Fine → X) → (IsLeading b → go (S.Digits y) ≡ Fine → X) → X
  begin_case e m n k = case (eqb b 45) (eqb b 48) refl refl e
    where
      case : (p q : Bool) → eqb b 45 ≡ p → eqb b 48 ≡ q → follow at (cond p (To (S.Minus y)) (cond q (To (S.Nought y)) (lead_of y b))) go ≡ Fine → X
      case true q x z e = m (eqb-true b 45 x) e
      case false true x z e = n (eqb-true b 48 z) e
      case false false x z e = lead_case e k

  digit_case : follow at (next_of (S.Digits y) b) go ≡ Fine → (IsDigit b → go (S.Digits y) ≡ Fine → X) → (follow at (end_of y b) go ≡ Fine → X) → X
  unfolding next_of
  digit_case e k f = case (leb 48 b) (leb b 57) refl refl e
    where
      case : (l h : Bool) → leb 48 b ≡ l → leb b 57 ≡ h → follow at (cond (cond l h false) (To (S.Digits y)) (end_of y b)) go ≡ Fine → X
      case true true x z e = k (leb-true 48 b x, leb-true b 57 z) e
      case true false x z e = f e
      case false h x z e = f e

module _ {X : Type 0} (b at : ℕ) (go : Stage → Verdict) where
  comma_case : follow at (end_of false b) go ≡ Fine → (b ≡ 44 → go (S.Fresh true) ≡ Fine → X) → X
  comma_case e k = case (eqb b 44) refl e
    where
      case : (p : Bool) → eqb b 44 ≡ p → follow at (cond p (To (S.Fresh true)) Stranger) go ≡ Fine → X
      case true x e = k (eqb-true b 44 x) e
      case false x e = never at e

  space_case : follow at (end_of true b) go ≡ Fine → (b ≡ 32 → go (S.Fresh false) ≡ Fine → X) → X
  space_case e k = case (eqb b 32) refl e
    where
      case : (p : Bool) → eqb b 32 ≡ p → follow at (cond p (To (S.Fresh false)) Stranger) go ≡ Fine → X
      case true x e = k (eqb-true b 32 x) e
      case false x e = never at e

-- ---- what is left at a stage

-- a number begun with a leading digit and others, with a minus or without
pub record Begun (ok : List ℕ → Type 0) (r : List ℕ) : Type 0 where
  pub bare : (b : ℕ) (ds : List ℕ) → IsLeading b → Digits ds → ok (b ∷ (ds ++ r))
  pub less : (b : ℕ) (ds : List ℕ) → IsLeading b → Digits ds → ok (45 ∷ b ∷ (ds ++ r))

-- behind any x and its comma
pub record Behind (l : List ℕ) : Type 0 where
  pub any : (a : List ℕ) → Number a → PointsForm (a ++ 44 ∷ l)

abbrev Left : Stage → List ℕ → Type 0
Left (S.Fresh false) r = PointsForm r
Left (S.Minus false) r = PointsForm (45 ∷ r)
Left (S.Nought false) r = PointsForm (48 ∷ r)
Left (S.Digits false) r = Begun PointsForm r
Left (S.Fresh true) r = Behind r
Left (S.Minus true) r = Behind (45 ∷ r)
Left (S.Nought true) r = Behind (48 ∷ r)
Left (S.Digits true) r = Begun Behind r

digits_more : (ds : List ℕ) (c : ℕ) → Digits ds → IsDigit c → Digits (ds ++ c ∷ [])
digits_more [] c h g = (g, tt)
digits_more (d ∷ ds) c h g = (h.0, digits_more ds c h.1 g)

begun_more : (ok : List ℕ → Type 0) (c : ℕ) (r : List ℕ) → IsDigit c → Begun ok r → Begun ok (c ∷ r)
begun_more ok c r g k =
    record {
      bare = λ b ds h d. subst (λ (l : List ℕ). ok (b ∷ l)) (append_assoc ds (c ∷ []) r) (k.bare b (ds ++ c ∷ []) h (digits_more ds c d g));
      less = λ b ds h d. subst (λ (l : List ℕ). ok (45 ∷ b ∷ l)) (append_assoc ds (c ∷ []) r) (k.less b (ds ++ c ∷ []) h (digits_more ds c d g));
    }

nil_append : (l : List ℕ) → l ++ [] ≡ l
nil_append [] = refl
nil_append (x ∷ l) = ap (λ (k : List ℕ). x ∷ k) (nil_append l)

-- a whole y ends the text, or a space follows
y_last : (n : List ℕ) → Number n → Behind n
y_last n h = record { any = λ a g. last (pair a n g h) }

y_more : (n r : List ℕ) → Number n → PointsForm r → Behind (n ++ 32 ∷ r)
y_more n r h f = record { any = λ a g. subst PointsForm (append_assoc a (44 ∷ n) (32 ∷ r)) (more (a ++ 44 ∷ n) r (pair a n g h) f) }

left : (r : List ℕ) (s : Stage) (at : ℕ) → text_from s at r ≡ Fine → Left s r
unfolding text_from next_of may_end
left [] (S.Fresh false) at e = never at e
left [] (S.Fresh true) at e = never at e
left [] (S.Minus false) at e = never at e
left [] (S.Minus true) at e = never at e
left [] (S.Nought false) at e = never at e
left [] (S.Nought true) at e = y_last (48 ∷ []) nought
left [] (S.Digits false) at e = never at e
left [] (S.Digits true) at e =
    record {
      bare = λ b ds h d. subst (λ (l : List ℕ). Behind (b ∷ l)) (sym (nil_append ds)) (y_last (b ∷ ds) (plain h d));
      less = λ b ds h d. subst (λ (l : List ℕ). Behind (45 ∷ b ∷ l)) (sym (nil_append ds)) (y_last (45 ∷ b ∷ ds) (minus h d));
    }
left (c ∷ r) (S.Fresh false) at e =
    begin_case false c at (λ t. text_from t (suc at) r) e (λ i f. rw i (left r (S.Minus false) (suc at) f)) (λ i f. rw i (left r (S.Nought false) (suc at) f))
    (λ h f. (left r (S.Digits false) (suc at) f).bare c [] h tt)
left (c ∷ r) (S.Fresh true) at e =
    begin_case true c at (λ t. text_from t (suc at) r) e (λ i f. rw i (left r (S.Minus true) (suc at) f)) (λ i f. rw i (left r (S.Nought true) (suc at) f))
    (λ h f. (left r (S.Digits true) (suc at) f).bare c [] h tt)
left (c ∷ r) (S.Minus false) at e = lead_case false c at (λ t. text_from t (suc at) r) e (λ h f. (left r (S.Digits false) (suc at) f).less c [] h tt)
left (c ∷ r) (S.Minus true) at e = lead_case true c at (λ t. text_from t (suc at) r) e (λ h f. (left r (S.Digits true) (suc at) f).less c [] h tt)
left (c ∷ r) (S.Nought false) at e = comma_case c at (λ t. text_from t (suc at) r) e (λ i f. rw i ((left r (S.Fresh true) (suc at) f).any (48 ∷ []) nought))
left (c ∷ r) (S.Nought true) at e = space_case c at (λ t. text_from t (suc at) r) e (λ i f. rw i (y_more (48 ∷ []) r nought (left r (S.Fresh false) (suc at) f)))
left (c ∷ r) (S.Digits false) at e =
    digit_case false c at (λ t. text_from t (suc at) r) e (λ h f. begun_more PointsForm c r h (left r (S.Digits false) (suc at) f))
    (λ f. comma_case c at (λ t. text_from t (suc at) r) f (λ i g. rw i (
    let k = left r (S.Fresh true) (suc at) g in
    record { bare = λ b ds h d. k.any (b ∷ ds) (plain h d); less = λ b ds h d. k.any (45 ∷ b ∷ ds) (minus h d) })))
left (c ∷ r) (S.Digits true) at e =
    digit_case true c at (λ t. text_from t (suc at) r) e (λ h f. begun_more Behind c r h (left r (S.Digits true) (suc at) f))
    (λ f. space_case c at (λ t. text_from t (suc at) r) f (λ i g. rw i (
    let k = left r (S.Fresh false) (suc at) g in
    record { bare = λ b ds h d. y_more (b ∷ ds) r (plain h d) k; less = λ b ds h d. y_more (45 ∷ b ∷ ds) r (minus h d) k })))

pub passes_form : (text : List ℕ) → text_of text ≡ Fine → PointsForm text
unfolding text_of
passes_form text e = left text (S.Fresh false) 0 e

-- Assumes nothing.
