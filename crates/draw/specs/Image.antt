-- A whole image drawn in parts: the rows and their parts in any order, each by an outcome that the contract of `draw` allows.
use Rattle.std.specs.Prelude.{◌≡◌, cond, List, [], ◌∷◌, ◌++◌, map, ℕ, zero, suc, ◌+◌, ◌*◌, ◌<◌, eqb, length}
use Rattle.draw.specs.Draw.{Table, Sight, Channels, shown_of, updates}
use Rattle.draw.specs.Parts.{Part, cuts, total, Draws, Whole}

-- a part of a row of an image
pub record Job : Type 0 where
  pub row : ℕ
  pub part : Part

abbrev pub job : ℕ → Part → Job
job y p = record { row = y; part = p }

-- the parts of the rows from y on, each row cut into adjacent parts of the given widths
abbrev pub jobs : ℕ → List (List ℕ) → List Job
jobs y [] = []
jobs y (ws ∷ wss) = map (job y) (cuts 0 ws) ++ jobs (suc y) wss

-- each row's widths sum to W
abbrev pub Each : ℕ → List (List ℕ) → Type 0
Each W [] = Unit
Each W (ws ∷ wss) = (total ws ≡ W) × Each W wss

-- an image: the channels of each row; one of its rows replaced
abbrev pub Image : Type 0
Image = ℕ → Channels

abbrev pub with_row : Image → ℕ → Channels → Image
with_row a y b i = cond (eqb i y) b (a i)

-- parts drawn one after another for a desk, whose bits stay meanwhile: from the image a to w, with the updates summed
pub data DrawnAll (t : Table) (s : Sight) : List Job → Image → ℕ → Image → Type 0 where
  none : {a : Image} → DrawnAll t s [] a 0 a
  more : {y : ℕ} {p : Part} {js : List Job} {a w : Image} {b : Channels} {count rest : ℕ} → Draws t s y p (a y) count b → DrawnAll t s js (with_row a y b) rest w → DrawnAll t s (job y p ∷ js) a (count + rest) w

-- the pairs of a row's shown entry and a column that its segment has, over n rows from y on
abbrev pub pairs : Table → Sight → ℕ → ℕ → ℕ → ℕ
pairs t s W y zero = 0
pairs t s W y (suc n) = updates t.segments 0 W (shown_of t s y) + pairs t s W (suc y) n

-- W columns of each shown entry, over n rows from y on
abbrev pub most_pairs : Table → Sight → ℕ → ℕ → ℕ → ℕ
most_pairs t s W y zero = 0
most_pairs t s W y (suc n) = W * length (shown_of t s y) + most_pairs t s W (suc y) n

-- the image drawn whole
pub record WholeImage (t : Table) (s : Sight) (W H : ℕ) (a : Image) (sum : ℕ) (w : Image) : Type 0 where
  pub each_row : (y : ℕ) → y < H → Whole t s y W (a y) (updates t.segments 0 W (shown_of t s y)) (w y)
  pub all_pairs : sum ≡ pairs t s W 0 H
