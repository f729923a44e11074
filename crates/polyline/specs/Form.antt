-- The form of a points text, as a grammar: the strict part of the value of SVG's `points` attribute that is read and written.
--   number = "0" | [ "-" ] leading digit*        leading = "1" .. "9", digit = "0" .. "9"
--   pair   = number "," number
--   points = pair ( " " pair )*
-- Bytes are their ASCII numbers: 32 is a space, 44 a comma, 45 a minus, 48 to 57 are the digits.
use Rattle.std.specs.Prelude.{List, [], ◌∷◌, ◌++◌, ℕ, ◌≤◌}

abbrev pub IsDigit : ℕ → Type 0
IsDigit b = (48 ≤ b) × (b ≤ 57)

abbrev pub IsLeading : ℕ → Type 0
IsLeading b = (49 ≤ b) × (b ≤ 57)

abbrev pub Digits : List ℕ → Type 0
Digits [] = Unit {0}
Digits (b ∷ bs) = IsDigit b × Digits bs

pub data Number : List ℕ → Type 0 where
  nought : Number (48 ∷ [])
  plain : {b : ℕ} {bs : List ℕ} → IsLeading b → Digits bs → Number (b ∷ bs)
  minus : {b : ℕ} {bs : List ℕ} → IsLeading b → Digits bs → Number (45 ∷ b ∷ bs)

pub data PairForm : List ℕ → Type 0 where
  pair : (a b : List ℕ) → Number a → Number b → PairForm (a ++ 44 ∷ b)

pub data PointsForm : List ℕ → Type 0 where
  last : {a : List ℕ} → PairForm a → PointsForm a
  more : (a b : List ℕ) → PairForm a → PointsForm b → PointsForm (a ++ 32 ∷ b)
