-- A row drawn in parts: adjacent parts that hold the row, drawn one after another in any order, each by an outcome that the contract of `draw` allows.
use Rattle.std.specs.Prelude.{◌≡◌, List, [], ◌∷◌, ◌++◌, ℕ, ◌+◌, ◌≤◌, length, take, drop, Float}
use Rattle.shade.specs.Edit.{edit}
use Rattle.draw.specs.Draw.{pixel, updates, Table, Sight, shown_of, told_of, Channels, three, leaves, draw_of}
use Rattle.draw.specs.DrawAnswer.{DrawAnswer}

-- a part of a row: its first column and how many columns it has
pub record Part : Type 0 where
  pub at : ℕ
  pub wide : ℕ

-- adjacent parts of the given widths, the first at column x
abbrev pub cuts : ℕ → List ℕ → List Part
cuts x [] = []
cuts x (w ∷ ws) = record { at = x; wide = w } ∷ cuts (x + w) ws

-- the sum of the widths
abbrev pub total : List ℕ → ℕ
total [] = 0
total (w ∷ ws) = w + total ws

-- n cells of a channel from column x on, and the channel with others in their place
abbrev pub cells : ℕ → ℕ → List Float → List Float
cells x n xs = take n (drop x xs)

abbrev pub placed : ℕ → ℕ → List Float → List Float → List Float
placed x n xs zs = take x xs ++ (zs ++ drop n (drop x xs))

-- the same of three channels
abbrev pub cells_of : ℕ → ℕ → Channels → Channels
cells_of x n a = three (cells x n a.r0) (cells x n a.r1) (cells x n a.r2)

abbrev pub placed_in : ℕ → ℕ → Channels → Channels → Channels
placed_in x n a z = three (placed x n a.r0 z.r0) (placed x n a.r1 z.r1) (placed x n a.r2 z.r2)

-- every channel has so many cells
pub record Wide (W : ℕ) (a : Channels) : Type 0 where
  pub w0 : length a.r0 ≡ W
  pub w1 : length a.r1 ≡ W
  pub w2 : length a.r2 ≡ W

-- a part of row y drawn by an outcome that the contract allows: from the row's channels a to b, with a count of updates. The row may be stored anywhere: three slices are lent that
-- begin with the part's cells of the row, as `&mut plane[y * stride + x0..]` or a strip in a buffer of its own, whatever stands behind; and the row has the cells that come back
pub record Draws (t : Table) (s : Sight) (y : ℕ) (p : Part) (a : Channels) (count : ℕ) (b : Channels) : Type 0 where
  pub lent : Channels
  pub answer : DrawAnswer
  pub left : Channels
  pub in_row_lem : p.at + p.wide ≤ length a.r0
  pub begins : cells_of 0 p.wide lent ≡ cells_of p.at p.wide a
  pub outcome : leaves answer left ≡ draw_of t s y p.at p.wide lent
  pub counted : count ≡ (told_of answer).updates
  pub comes_back : b ≡ placed_in p.at p.wide a (cells_of 0 p.wide left)

-- parts of row y drawn one after another for a desk, whose bits stay meanwhile: from the channels a to w, with the updates summed
pub data Drawn (t : Table) (s : Sight) (y : ℕ) : List Part → Channels → ℕ → Channels → Type 0 where
  none : {a : Channels} → Drawn t s y [] a 0 a
  more : {p : Part} {ps : List Part} {a b w : Channels} {count rest : ℕ} → Draws t s y p a count b → Drawn t s y ps b rest w → Drawn t s y (p ∷ ps) a (count + rest) w

-- the row drawn whole: each pixel has exactly the listed segments added that are not hidden for the desk and have its column, and the updates are the pairs of such a segment and a column that it has
pub record Whole (t : Table) (s : Sight) (y W : ℕ) (a : Channels) (sum : ℕ) (w : Channels) : Type 0 where
  pub channel0 : w.r0 ≡ edit (λ x v. pixel 0 t.segments y x (shown_of t s y) v) a.r0
  pub channel1 : w.r1 ≡ edit (λ x v. pixel 1 t.segments y x (shown_of t s y) v) a.r1
  pub channel2 : w.r2 ≡ edit (λ x v. pixel 2 t.segments y x (shown_of t s y) v) a.r2
  pub pairs : sum ≡ updates t.segments 0 W (shown_of t s y)
