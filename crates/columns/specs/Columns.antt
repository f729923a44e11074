-- `draw_segment_simd`: a pixel with the segments added that have its column, and how many columns they have. Definitions only.
use Rattle.std.specs.Prelude.{Bool, cond, ◌&&◌, ℕ, zero, suc, ◌+◌, ◌≤◌, leb, ltb, length, Float}
use mathlib.Core.List.{List, [], ◌∷◌, foldl}
use Rattle.segments.specs.Segment.{segment_at}
use Rattle.segments.specs.Ranges.{has_column}
use Rattle.segments.specs.declared.Segment.{Segment}
use Rattle.segments.specs.declared.Range.{Range}
use Rattle.columns.specs.declared.part.Part.{Part}
use Rattle.shade.specs.Edit.{edit, first_cells}
use Rattle.shade.specs.Shade.{shaded}

-- the pixel at row y and column x, of colour c, with segment i added if the segment has the column
abbrev pub shaded_in_column : ℕ → List Float → ℕ → ℕ → Float → ℕ → Float
shaded_in_column c segments y x v i = cond (has_column (segment_at segments i) x) (shaded (segment_at segments i) y x c v) v

-- with the listed segments added, in listed order
abbrev pub pixel : ℕ → List Float → ℕ → ℕ → List ℕ → Float → Float
pixel c segments y x listed v = foldl (shaded_in_column c segments y x) v listed

-- whether x is one of the columns from `first` up to, not including, `past`
abbrev pub between : ℕ → ℕ → ℕ → Bool
between first past x = leb first x && ltb x past

-- cell k of a channel of colour c that begins at column x0 of row y, with a segment added if a range has its column
abbrev pub shaded_in_range : Segment → Range → ℕ → ℕ → ℕ → ℕ → Float → Float
shaded_in_range s r y x0 c k v = cond (between r.first r.past (x0 + k)) (shaded s y (x0 + k) c v) v

-- how many of the n columns from x0 on pass the test
abbrev pub count : (ℕ → Bool) → ℕ → ℕ → ℕ
count p x0 zero = 0
count p x0 (suc n) = cond (p (x0 + n)) 1 0 + count p x0 n

-- the pairs of a listed segment and one of the n columns from x0 on that it has
abbrev pub updates : List Float → ℕ → ℕ → List ℕ → ℕ
updates segments x0 n [] = 0
updates segments x0 n (i ∷ listed) = count (has_column (segment_at segments i)) x0 n + updates segments x0 n listed

-- n pixels lie in each of three channels
pub record ChannelsFit (n : ℕ) (r0 r1 r2 : List Float) : Type 0 where
  pub fits0 : n ≤ length r0
  pub fits1 : n ≤ length r1
  pub fits2 : n ≤ length r2

-- a channel of colour c that begins at a part's first column, with the listed segments added to the part's pixels
abbrev pub drawn : ℕ → List Float → Part → List ℕ → List Float → List Float
drawn c segments p listed xs = edit (first_cells p.n (λ k v. pixel c segments p.y (p.x0 + k) listed v)) xs
