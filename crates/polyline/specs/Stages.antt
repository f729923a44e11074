-- The form of a points text, byte by byte: which bytes may come next, and the first that may not. That these texts are the grammar's is `form_judged` of the crate `polyline_laws`.
use Rattle.std.specs.Prelude.{Bool, true, false, cond, List, [], ◌∷◌, ℕ, suc, eqb, leb}
use Rattle.codes.specs.declared.Code.TheVariants.{Text}
use Rattle.write_judge.specs.Verdict.{Verdict}
use Rattle.write_judge.specs.Verdict.{Fine, Fault}
use Rattle.polyline.specs.declared.Stage.{Stage}
use Rattle.polyline.specs.declared.Stage.TheVariants.{Fresh, Minus, Nought, Digits}
use Rattle.polyline.specs.Step.{Step, To, Stranger}

-- one of two numbers and all between
abbrev pub among : ℕ → ℕ → ℕ → Bool
among low high b = cond (leb low b) (leb b high) false

-- 1 to 9 begin a number
abbrev pub lead_of : Bool → ℕ → Step
lead_of y b = cond (among 49 57 b) (To (Digits y)) Stranger

-- a number may begin with a minus, or be 0
abbrev pub begin_of : Bool → ℕ → Step
begin_of y b = cond (eqb b 45) (To (Minus y)) (cond (eqb b 48) (To (Nought y)) (lead_of y b))

-- a comma ends an x, a space a y
abbrev pub end_of : Bool → ℕ → Step
end_of false b = cond (eqb b 44) (To (Fresh true)) Stranger
end_of true b = cond (eqb b 32) (To (Fresh false)) Stranger

-- what the next byte leads to
unfoldable pub next_of : Stage → ℕ → Step
next_of (Fresh y) b = begin_of y b
next_of (Minus y) b = lead_of y b
next_of (Nought y) b = end_of y b
next_of (Digits y) b = cond (among 48 57 b) (To (Digits y)) (end_of y b)

-- the text may end with a y
unfoldable pub may_end : Stage → Bool
may_end (Fresh y) = false
may_end (Minus y) = false
may_end (Nought y) = y
may_end (Digits y) = y

abbrev pub follow : ℕ → Step → (Stage → Verdict) → Verdict
follow at (To s) go = go s
follow at Stranger go = Fault Text at

-- the rest of a text from the byte `at` on: TEXT at the first byte that may not stand there, or at the end where more is due
unfoldable pub text_from : Stage → ℕ → List ℕ → Verdict
text_from s at [] = cond (may_end s) Fine (Fault Text at)
text_from s at (b ∷ bs) = follow at (next_of s b) (λ t. text_from t (suc at) bs)

unfoldable pub text_of : List ℕ → Verdict
text_of text = text_from (Fresh false) 0 text
