-- What a desk is shown of a description's segments, and what is lent beside a built table. Definitions only.
use Rattle.std.specs.Prelude.{◌≡◌, Bool, cond, List, [], ◌∷◌, ℕ, ◌≤◌, ◌<◌, length, get_or, take}
use Rattle.dequantize.specs.Judge.{Description}
use Rattle.segments.specs.declared.Segment.{Segment}
use Rattle.table.specs.Table.{Setting}
use Rattle.table.specs.Segments.{MakesOwned}
use Rattle.desks.specs.Desks.{Sight, bit_of}

-- spline k is hidden for the desk
abbrev pub hides : Sight → ℕ → Bool
hides s k = bit_of s.desk (get_or s.bits k 0)

-- the segments that are not hidden for the desk, told by their owners, in their order
abbrev pub not_hidden : Sight → List ℕ → List Segment → List Segment
not_hidden s [] segs = []
not_hidden s (k ∷ owners) [] = []
not_hidden s (k ∷ owners) (m ∷ segs) = cond (hides s k) (not_hidden s owners segs) (m ∷ not_hidden s owners segs)

-- what is lent beside a built table: the owners that the description's segments have, whatever stands behind them, its number of splines, a byte for each spline at least, and desk 0 or 1
pub record KeptSight (d : Description) (i : Setting) (segments : List Segment) (owners : List ℕ) (s : Sight) : Type 0 where
  pub makes : MakesOwned d i segments owners
  pub kept : take (length owners) s.owners ≡ owners
  pub splines : s.splines ≡ length d.counts
  pub bytes : s.splines ≤ length s.bits
  pub desk : s.desk < 2
