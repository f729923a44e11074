-- How the place of TEXT is told: what begins a text of the form, and what does not. Definitions only.
use Rattle.std.specs.Prelude.{◌≡◌, List, ◌++◌, ℕ, suc, ◌≤◌, ◌<◌, length, take}
use Rattle.codes.specs.declared.Code.TheVariants.{Text}
use Rattle.write_judge.specs.Verdict.{Fine, Fault}
use Rattle.polyline.specs.Form.{PointsForm}
use Rattle.polyline.specs.Stages.{text_of}

-- some text of the form begins with these bytes
pub record Begins (bytes : List ℕ) : Type 0 where
  pub rest : List ℕ
  pub form : PointsForm (bytes ++ rest)

-- TEXT at a place: the bytes before it begin a text of the form; where the text goes on, no text of the form begins with them and the next byte, and else the text itself is none
pub record FirstBad (text : List ℕ) (place : ℕ) : Type 0 where
  pub inside : place ≤ length text
  pub before : Begins (take place text)
  pub with : place < length text → Begins (take (suc place) text) → ⊥
  pub whole : PointsForm text → ⊥

-- statements

abbrev pub FormJudged : Type 0
FormJudged = (text : List ℕ) → (PointsForm text → text_of text ≡ Fine) × (text_of text ≡ Fine → PointsForm text)

abbrev pub FirstBadByte : Type 0
FirstBadByte = (text : List ℕ) (place : ℕ) → text_of text ≡ Fault Text place → FirstBad text place
