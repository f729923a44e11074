-- The segments of a description for a setting, with no word of what is lent; what a build needs, and what it leaves where its needs are met. Definitions only.
-- The statements at the end are proved in proofs/Segments.antt.
use Rattle.std.specs.Prelude.{◌≡◌, List, ℕ, suc, ◌*◌, ◌^◌, ◌≤◌, ◌<◌, length, take}
use Rattle.numbers.specs.Arith.{0·0}
use Rattle.buffers.specs.Padded.{padded}
use Rattle.dequantize.specs.Judge.{Description, Shaped, total_of}
use Rattle.dequantize.specs.Refusals.{AllPass}
use Rattle.segments.specs.declared.Segment.{Segment}
use Rattle.points.specs.Points.{eights}
use Rattle.painting.specs.Segments.{MakesUpTo, DrawnUpTo, Suffices}
use Rattle.rows.specs.Rows.{in_row, start_of, rows, up_to}
use Rattle.faint.specs.Faint.{faint_in}
use Rattle.build_answer.specs.BuildAnswer.{Done}
use Rattle.table.specs.Table.{Setting, BuildRooms, BuildOutcome, given_of, leaves, zeros, build_of}

-- the segments of a description with their owners: those of its splines, in their order, and the number of each one's spline
abbrev pub MakesOwned : Description → Setting → List Segment → List ℕ → Type 0
MakesOwned d i segs owners = MakesUpTo d (given_of i) i.high (length d.counts) segs owners

-- the segments alone
pub record Makes (d : Description) (i : Setting) (segs : List Segment) : Type 0 where
  pub owners : List ℕ
  pub made : MakesOwned d i segs owners

-- how many entries the rows of these segments have
abbrev pub entry_total : Setting → List Segment → ℕ
entry_total i segs = start_of (in_row (eights segs)) (length segs) i.height

-- ---- what a build needs

module _ (d : Description) (i : Setting) (r : BuildRooms) where
  -- the checks of the lengths have passed
  pub record Fits : Type 0 where
    pub narrow : i.width ≤ 2 ^ 23
    pub low : i.height ≤ 2 ^ 23
    pub shape : Shaped d
    pub tall : i.height < r.starts

  -- the lengths agree, every spline passes, every spline is drawn into the lent room, and there is room for the entries
  pub record NeedsMet (segs : List Segment) (owners : List ℕ) : Type 0 where
    pub fits : Fits
    pub passes : AllPass d (given_of i)
    pub drawn : DrawnUpTo d (given_of i) i.high r.path r.walk r.segments r.owners (length d.counts) segs owners
    pub entries : Suffices r.entries (2 ^ 30) (entry_total i segs)

  -- the counts and the table of these segments and owners, zeros behind it and in the working cells
  unfoldable pub done_with : List Segment → List ℕ → BuildOutcome
  done_with segs owners =
      leaves (Done (length segs) (entry_total i segs) (total_of d (given_of i) (length d.counts)) (faint_in (eights segs) (length segs))) (zeros r.path) (zeros r.walk) (padded r.segments 0·0 (eights segs)) (padded r.owners 0 owners)
      (padded r.starts 0 (up_to (start_of (in_row (eights segs)) (length segs)) (suc i.height))) (padded r.entries 0 (rows (in_row (eights segs)) (length segs) i.height))

  -- a done build has met its needs, made the segments of the description, and left their table
  pub record BuildMakes (s e estimate faint : ℕ) : Type 0 where
    pub segs : List Segment
    pub owners : List ℕ
    pub makes : MakesOwned d i segs owners
    pub needs : NeedsMet segs owners
    pub count : length segs ≡ s
    pub entry_count_lem : entry_total i segs ≡ e
    pub estimated : total_of d (given_of i) (length d.counts) ≡ estimate
    pub faint_count : faint_in (eights segs) (length segs) ≡ faint
    pub numbers : (build_of d i r).segments ≡ padded r.segments 0·0 (eights segs)
    pub leaves_them : build_of d i r ≡ done_with segs owners

-- at least as much room
pub record NoLess (r r' : BuildRooms) : Type 0 where
  pub path : r.path ≤ r'.path
  pub walk : r.walk ≤ r'.walk
  pub segments : r.segments ≤ r'.segments
  pub owners : r.owners ≤ r'.owners
  pub starts : r.starts ≤ r'.starts
  pub entries : r.entries ≤ r'.entries

-- the same counts, and the same cells of the table: the numbers and the owners of s segments, e entries, and a start for each row and one
pub record SameTable (height s e : ℕ) (o o' : BuildOutcome) : Type 0 where
  pub answer : o'.answer ≡ o.answer
  pub segments : take (8 * s) o'.segments ≡ take (8 * s) o.segments
  pub owners : take s o'.owners ≡ take s o.owners
  pub entries : take e o'.entries ≡ take e o.entries
  pub starts : take (suc height) o'.starts ≡ take (suc height) o.starts

-- ---- statements

-- a description has one list of segments, and one of owners
abbrev pub MakesOne : Type 0
MakesOne = (d : Description) (i : Setting) (xs ys : List Segment) → Makes d i xs → Makes d i ys → xs ≡ ys

abbrev pub OwnsOne : Type 0
OwnsOne = (d : Description) (i : Setting) (xs ys : List Segment) (us vs : List ℕ) → MakesOwned d i xs us → MakesOwned d i ys vs → (xs ≡ ys) × (us ≡ vs)

-- a build whose needs are met is done, with the table of its segments
abbrev pub EnoughIsDone : Type 0
EnoughIsDone = (d : Description) (i : Setting) (r : BuildRooms) (segs : List Segment) (owners : List ℕ) → NeedsMet d i r segs owners → build_of d i r ≡ done_with d i r segs owners

-- a build that is done made the segments of the description
abbrev pub DoneMakes : Type 0
DoneMakes = (d : Description) (i : Setting) (r : BuildRooms) (s e estimate faint : ℕ) → (build_of d i r).answer ≡ Done s e estimate faint → BuildMakes d i r s e estimate faint

-- and it is done with any rooms at least as large, with the same counts and the same table
abbrev pub MoreRoomNeverRefuses : Type 0
MoreRoomNeverRefuses =
    (d : Description) (i : Setting) (r r' : BuildRooms) (s e estimate faint : ℕ) → NoLess r r' → (build_of d i r).answer ≡ Done s e estimate faint
    → SameTable i.height s e (build_of d i r) (build_of d i r')
