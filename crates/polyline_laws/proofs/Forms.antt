-- The grammar and the stages agree: a text of the form passes, a text that passes has the form, and every stage can go on to a text of the form.
use mathlib.Core.Path.{◌≡◌, refl, sym, ap, ◌∙◌}
use mathlib.Core.Bool.{Bool, true, false, cond}
use mathlib.Core.List.{List, [], ◌∷◌, ◌++◌, append_assoc}
use Prim.Native.Nat.{ℕ, zero, suc, ◌+◌, ◌<◌}
use native.Mathlib.Omega.{arith}
use lib.ListN.{length, take}
use borrow.Author.Tests.{ne_eqb, le-leb}
use Rattle.codes.proofs.Refusals.{same_refusal}
use Rattle.codes.specs.declared.Code.TheVariants.{Text}
use Rattle.write_judge.specs.Verdict.{Fine, Fault}
use Rattle.polyline.specs.declared.Stage.{Stage}
use Rattle.polyline.specs.declared.Stage.TheVariants as S
use Rattle.polyline.specs.Step.{Step, To, Stranger}
use Rattle.polyline.specs.Form.{IsDigit, IsLeading, Digits, Number, nought, plain, minus, PairForm, pair, PointsForm, last, more}
use Rattle.polyline.specs.Stages.{lead_of, next_of, may_end, follow, text_from, text_of}
use Rattle.polyline_laws.specs.Begins.{Begins}

-- ---- what a stage makes of a byte

digit_next : (y : Bool) (b : ℕ) → IsDigit b → next_of (S.Digits y) b ≡ To (S.Digits y)
unfolding next_of
digit_next y b h = rw (le-leb 48 b h.0, le-leb b 57 h.1)

lead_next : (y : Bool) (b : ℕ) → IsLeading b → lead_of y b ≡ To (S.Digits y)
lead_next y b h = rw (le-leb 49 b h.0, le-leb b 57 h.1)

fresh_lead : (y : Bool) (b : ℕ) → IsLeading b → next_of (S.Fresh y) b ≡ To (S.Digits y)
unfolding next_of
fresh_lead y b h = rw (ne_eqb b 45 (λ e. omega (arith, h.0)), ne_eqb b 48 (λ e. omega (arith, h.0))) (lead_next y b h)

minus_lead : (y : Bool) (b : ℕ) → IsLeading b → next_of (S.Minus y) b ≡ To (S.Digits y)
unfolding next_of
minus_lead y b h = lead_next y b h

-- a byte further
to_next : (s t : Stage) (at b : ℕ) (bs : List ℕ) → next_of s b ≡ To t → text_from s at (b ∷ bs) ≡ text_from t (suc at) bs
unfolding text_from
to_next s t at b bs e = rw e

-- ---- a text of the form passes

-- a stage behind a whole number of the pair
pub data Whole (y : Bool) : Stage → Type 0 where
  nought_whole : Whole y (S.Nought y)
  digits_whole : Whole y (S.Digits y)

pub record Passed (y : Bool) (at : ℕ) (a r : List ℕ) : Type 0 where
  pub stage : Stage
  pub is : Whole y stage
  pub on : text_from (S.Fresh y) at (a ++ r) ≡ text_from stage (length a + at) r

digits_pass : (y : Bool) (ds r : List ℕ) (at : ℕ) → Digits ds → text_from (S.Digits y) at (ds ++ r) ≡ text_from (S.Digits y) (length ds + at) r
digits_pass y [] r at h = ap (λ (k : ℕ). text_from (S.Digits y) k r) (omega arith)
digits_pass y (d ∷ ds) r at h =
    to_next (S.Digits y) (S.Digits y) at d (ds ++ r) (digit_next y d h.0) ∙ digits_pass y ds r (suc at) h.1 ∙ ap (λ (k : ℕ). text_from (S.Digits y) k r) (omega arith)

number_pass : (y : Bool) (a r : List ℕ) (at : ℕ) → Number a → Passed y at a r
unfolding next_of
number_pass y a r at nought = record { stage = S.Nought y; is = nought_whole; on = to_next (S.Fresh y) (S.Nought y) at 48 r refl ∙ ap (λ (k : ℕ). text_from (S.Nought y) k r) (omega arith) }
number_pass y a r at (plain {b} {bs} h g) =
    record {
      stage = S.Digits y;
      is = digits_whole;
      on = to_next (S.Fresh y) (S.Digits y) at b (bs ++ r) (fresh_lead y b h) ∙ digits_pass y bs r (suc at) g ∙ ap (λ (k : ℕ). text_from (S.Digits y) k r) (omega arith);
    }
number_pass y a r at (minus {b} {bs} h g) =
    record {
      stage = S.Digits y;
      is = digits_whole;
      on = to_next (S.Fresh y) (S.Minus y) at 45 (b ∷ (bs ++ r)) refl ∙ to_next (S.Minus y) (S.Digits y) (suc at) b (bs ++ r) (minus_lead y b h)
          ∙ digits_pass y bs r (suc (suc at)) g ∙ ap (λ (k : ℕ). text_from (S.Digits y) k r) (omega arith);
    }

comma_next : (s : Stage) → Whole false s → next_of s 44 ≡ To (S.Fresh true)
unfolding next_of
comma_next s nought_whole = refl
comma_next s digits_whole = refl

space_next : (s : Stage) → Whole true s → next_of s 32 ≡ To (S.Fresh false)
unfolding next_of
space_next s nought_whole = refl
space_next s digits_whole = refl

whole_ends : (s : Stage) → Whole true s → may_end s ≡ true
unfolding may_end
whole_ends s nought_whole = refl
whole_ends s digits_whole = refl

pub record PairPassed (at : ℕ) (a r : List ℕ) : Type 0 where
  pub stage : Stage
  pub is : Whole true stage
  pub place : ℕ
  pub on : text_from (S.Fresh false) at (a ++ r) ≡ text_from stage place r

pair_pass : (a r : List ℕ) (at : ℕ) → PairForm a → PairPassed at a r
pair_pass t r at (pair a b na nb) =
    let p = number_pass false a (44 ∷ (b ++ r)) at na in
    let q = number_pass true b r (suc (length a + at)) nb in
    record {
      stage = q.stage;
      is = q.is;
      place = length b + suc (length a + at);
      on = ap (text_from (S.Fresh false) at) (append_assoc a (44 ∷ b) r) ∙ p.on ∙ to_next p.stage (S.Fresh true) (length a + at) 44 (b ++ r) (comma_next p.stage p.is) ∙ q.on;
    }

nil_append : (l : List ℕ) → l ++ [] ≡ l
nil_append [] = refl
nil_append (x ∷ l) = ap (λ (k : List ℕ). x ∷ k) (nil_append l)

ends_fine : (s : Stage) (at : ℕ) → Whole true s → text_from s at [] ≡ Fine
unfolding text_from
ends_fine s at w = rw (whole_ends s w)

pub form_passes : (text : List ℕ) (at : ℕ) → PointsForm text → text_from (S.Fresh false) at text ≡ Fine
form_passes t at (last {a} p) =
    let q = pair_pass a [] at p in
    ap (text_from (S.Fresh false) at) (sym (nil_append a)) ∙ q.on ∙ ends_fine q.stage q.place q.is
form_passes t at (more a b p ps) =
    let q = pair_pass a (32 ∷ b) at p in
    q.on ∙ to_next q.stage (S.Fresh false) q.place 32 b (space_next q.stage q.is) ∙ form_passes b (suc q.place) ps

-- ---- the place of TEXT

-- no place is before the first byte
pub early : (s : Stage) (at : ℕ) (text : List ℕ) (place : ℕ) → place < at → text_from s at text ≡ Fault Text place → ⊥
unfolding text_from
early s at [] place h e = go (may_end s) e
  where
    go : (b : Bool) → cond b Fine (Fault Text at) ≡ Fault Text place → ⊥
    go true e = let z : ◌≡◌ {A = ℕ} 0 1 = cc in omega arith
    go false e = let z : at ≡ place = (same_refusal e).1 in omega arith
early s at (b ∷ bs) place h e = go (next_of s b) e (λ t f. early t (suc at) bs place (omega arith) f)
  where
    go : (n : Step) → follow at n (λ t. text_from t (suc at) bs) ≡ Fault Text place → ((t : Stage) → text_from t (suc at) bs ≡ Fault Text place → ⊥) → ⊥
    go (To t) e f = f t e
    go Stranger e f = let z : at ≡ place = (same_refusal e).1 in omega arith

-- a byte that may not stand there may not stand there in any text
bad_stays : (text rest : List ℕ) (s : Stage) (at k : ℕ) → k < length text → text_from s at text ≡ Fault Text (at + k) → text_from s at (take (suc k) text ++ rest) ≡ Fault Text (at + k)
unfolding text_from
bad_stays [] rest s at k h e = absurd (omega arith)
bad_stays (b ∷ bs) rest s at k h e = go (next_of s b) refl k h e (λ t j g f. bad_stays bs rest t (suc at) j g f)
  where
    go : (n : Step) → next_of s b ≡ n → (k : ℕ) → k < length (b ∷ bs) → follow at n (λ t. text_from t (suc at) bs) ≡ Fault Text (at + k)
        → ((t : Stage) (j : ℕ) → j < length bs → text_from t (suc at) bs ≡ Fault Text (suc at + j) → text_from t (suc at) (take (suc j) bs ++ rest) ≡ Fault Text (suc at + j))
        → follow at n (λ t. text_from t (suc at) (take k bs ++ rest)) ≡ Fault Text (at + k)
    go Stranger x k h e f = e
    go (To t) x zero h e f = absurd (early t (suc at) bs at (omega arith) (e ∙ ap (λ (j : ℕ). Fault Text j) (omega arith)))
    go (To t) x (suc j) h e f =
        let m : at + suc j ≡ suc at + j = omega arith in
        rw m (f t j (omega arith) (rw m at e))

pub bad_byte : (text : List ℕ) (place : ℕ) → text_of text ≡ Fault Text place → place < length text → Begins (take (suc place) text) → ⊥
unfolding text_of
bad_byte text place e h b =
    let x = bad_stays text b.rest (S.Fresh false) 0 place h (e ∙ ap (λ (j : ℕ). Fault Text j) (omega arith)) in
    let y = form_passes (take (suc place) text ++ b.rest) 0 b.form in
    let z : ◌≡◌ {A = ℕ} 0 1 = cc in
    omega arith

pub no_form : (text : List ℕ) (place : ℕ) → text_of text ≡ Fault Text place → PointsForm text → ⊥
unfolding text_of
no_form text place e f =
    let y = form_passes text 0 f in
    let z : ◌≡◌ {A = ℕ} 0 1 = cc in
    omega arith

-- Assumes nothing.
