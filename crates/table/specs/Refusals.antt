-- The codes of building, and when each is given: the table of codes, for a build. Definitions only.
-- Codes 5 and 10 to 13 are `SplineRefusal` of the crate dequantize, drawing's ROOM is `SplineLacks` of painting. That a build refuses exactly so is `refused_exactly` of proofs/Users.antt.
use Rattle.std.specs.Prelude.{◌⊎◌, List, ℕ, ◌^◌, ◌≤◌, ◌<◌, length}
use Rattle.codes.specs.declared.Code.{Code}
use Rattle.dequantize.specs.Judge.{Description, Shaped}
use Rattle.dequantize.specs.Refusals.{AllPass, FirstRefused}
use Rattle.segments.specs.declared.Segment.{Segment}
use Rattle.painting.specs.Segments.{Lacks, DrawnUpTo, FirstLacks}
use Rattle.table.specs.Table.{Setting, BuildRooms, given_of}
use Rattle.table.specs.Segments.{Fits, entry_total}

module _ (d : Description) (i : Setting) (r : BuildRooms) where
  -- the code and the place, when
  pub data BuildRefusal : Code → ℕ → Type 0 where
    -- 8: width or height above 2^23
    size : (2 ^ 23 < i.width) ⊎ (2 ^ 23 < i.height) → BuildRefusal Code.Size 0
    -- 9: lengths disagree
    shape : i.width ≤ 2 ^ 23 → i.height ≤ 2 ^ 23 → (Shaped d → ⊥) → BuildRefusal Code.Shape 0
    -- 7: fewer row starts than rows and one
    starts : i.width ≤ 2 ^ 23 → i.height ≤ 2 ^ 23 → Shaped d → r.starts ≤ i.height → BuildRefusal Code.Room 0
    -- 5 and 10 to 13: the spline k is the first that is refused, before any is drawn
    judged : {c : Code} {k : ℕ} → Fits d i r → FirstRefused d (given_of i) c k → BuildRefusal c k
    -- 7: every spline passes, and the spline k is the first whose path, walk or segments lack room
    drawing : {k : ℕ} → Fits d i r → AllPass d (given_of i) → FirstLacks d (given_of i) i.high r.path r.walk r.segments r.owners k → BuildRefusal Code.Room k
    -- 7: every spline is drawn, and the entries are more than are lent, or than 2^30
    entries : {segs : List Segment} {owners : List ℕ} → Fits d i r → AllPass d (given_of i) → DrawnUpTo d (given_of i) i.high r.path r.walk r.segments r.owners (length d.counts) segs owners
        → Lacks r.entries (2 ^ 30) (entry_total i segs) → BuildRefusal Code.Room 0
