-- The points that a text of the form says, with no word of how a text is read: a text says points where it is what export writes of them. Definitions only.
use Rattle.std.specs.Prelude.{◌≡◌, List, [], ◌∷◌, ◌↔◌, ℕ, zero, suc, ◌+◌, ◌<◌, length}
use Rattle.control_points.specs.declared.Pair.{Pair}
use Rattle.polyline.specs.Form.{PointsForm}
use Rattle.polyline.specs.Write.{pair_text, points_text}

-- one point at least, and the text is theirs
pub record Says (text : List ℕ) (ps : List Pair) : Type 0 where
  pub some : 0 < length ps
  pub is : text ≡ points_text ps

-- the first byte of pair j: behind the pairs before it and the space behind each of them
abbrev pub first_byte : List Pair → ℕ → ℕ
first_byte ps zero = 0
first_byte [] (suc j) = 0
first_byte (p ∷ ps) (suc j) = suc (length (pair_text p) + first_byte ps j)

-- some points that a text says
pub record Said (text : List ℕ) : Type 0 where
  pub points : List Pair
  pub says : Says text points

-- statements

-- a text has the form exactly if it says points
abbrev pub FormSays : Type 0
FormSays = (text : List ℕ) → PointsForm text ↔ Said text

-- and no text says two lists of points
abbrev pub OneSaying : Type 0
OneSaying = (text : List ℕ) (ps qs : List Pair) → Says text ps → Says text qs → ps ≡ qs
