-- What the laws of a summary speak of: the rows and cells of a band, its numbers in words, runs of refreshes, and tables that are alike in every row. Definitions only.
use Rattle.std.specs.Prelude.{◌≡◌, ◌↔◌, ◌⊎◌, List, [], ◌∷◌, ℕ, suc, ◌+◌, ◌*◌, ◌/◌, ◌≤◌, ◌<◌, length, get_or}
use Rattle.desks.specs.Desks.{Sight, owner_in}
use Rattle.desks.specs.Agree.{Agree}
use Rattle.checks.specs.Tables.{Table, row_of, shown_of}
use Rattle.checks.specs.Refusals.{CountsFitFor}
use Rattle.checks.specs.Alike.{AlikeFor}
use Rattle.picture.specs.Picture.{Found}
use Rattle.bands.specs.Bands.{bands_in, row_of_band, rows_in, shown_in}
use Rattle.bands.specs.Calls.{BandsOutcome, band_of}
use Rattle.bands.specs.BandsAnswer as BandsAnswer

-- ---- the rows and cells of a band

-- row y is one of band b's in an image of H rows
pub record InBand (H b y : ℕ) : Type 0 where
  pub from : row_of_band b ≤ y
  pub before : y < row_of_band b + rows_in H b

-- the bands of an image: each row is in one and in no other, each but the last has 64 rows, and the last has one at least and ends with the image
pub record BandRows (H : ℕ) : Type 0 where
  pub covered : (y : ℕ) → y < H → (y / 64 < bands_in H) × InBand H (y / 64) y
  pub one : (b y : ℕ) → InBand H b y → (b ≡ y / 64) × (y < H)
  pub full : (b : ℕ) → suc b < bands_in H → rows_in H b ≡ 64
  pub last : (b : ℕ) → suc b ≡ bands_in H → (0 < rows_in H b) × (rows_in H b ≤ 64) × (row_of_band b + rows_in H b ≡ H)

-- cell k is none of band b's five
abbrev pub OtherCell : ℕ → ℕ → Type 0
OtherCell b k = (k < 5 * b) ⊎ (5 * b + 5 ≤ k)

-- a row of band b lists a segment of spline k, hidden or not
pub record ListsSpline (t : Table) (s : Sight) (b k : ℕ) : Type 0 where
  pub row : ℕ
  pub in_band : InBand t.height b row
  pub segment : ℕ
  pub listed : Found (row_of t row) segment
  pub owned : owner_in s segment ≡ k

-- segment i is shown in a row of band b
pub record ShownInBand (t : Table) (s : Sight) (b i : ℕ) : Type 0 where
  pub row : ℕ
  pub in_band : InBand t.height b row
  pub listed : Found (shown_of t s row) i

-- ---- a band's segment numbers

-- a number that is shown in the band, and bounds every shown one
pub record Bounds (Below : ℕ → ℕ → Type 0) (t : Table) (s : Sight) (b i : ℕ) : Type 0 where
  pub is_shown : ShownInBand t s b i
  pub bounds : (j : ℕ) → ShownInBand t s b j → Below i j

-- the first three cells of band b: how many entries are shown, and the least and the greatest segment number of those where there is one
pub record SegmentNumbers (t : Table) (s : Sight) (b : ℕ) (cells : List ℕ) : Type 0 where
  pub entries : get_or cells (5 * b) 0 ≡ length (shown_in t s b)
  pub least : 0 < length (shown_in t s b) → Bounds (λ i j. i ≤ j) t s b (get_or cells (5 * b + 1) 0)
  pub greatest : 0 < length (shown_in t s b) → Bounds (λ i j. j ≤ i) t s b (get_or cells (5 * b + 2) 0)

-- ---- a band's columns

-- a row of the band and what its reach answers, by what holds of the two columns
pub record RowReach (Answers : ℕ → ℕ → ℕ → Type 0) (Holds : ℕ → ℕ → Type 0) (H b : ℕ) : Type 0 where
  pub row : ℕ
  pub in_band : InBand H b row
  pub a : ℕ
  pub e : ℕ
  pub answers : Answers row a e
  pub ordered : a < e
  pub holds : Holds a e

-- the columns from first up to past are the hull of the rows' reaches: each row has one, one that is not empty lies inside, the first column is the first of some row, the last the last of some
-- row, and where the range is empty it is 0, 0. `Answers y a e` is that the reach of row y must be a, e, and `Answered y a e` that it was
pub record HullOf (Answers Answered : ℕ → ℕ → ℕ → Type 0) (H b first past : ℕ) : Type 0 where
  pub each : (y : ℕ) → InBand H b y → (a : ℕ) × (e : ℕ) × Answers y a e
  pub inside : (y : ℕ) → InBand H b y → (a e : ℕ) → Answered y a e → a < e → (first ≤ a) × (e ≤ past)
  pub begins : first < past → RowReach Answers (λ a e. a ≡ first) H b
  pub ends : first < past → RowReach Answers (λ a e. e ≡ past) H b
  pub empty : past ≤ first → (first ≡ 0) × (past ≡ 0)

-- ---- runs of refreshes

-- these bands refreshed one after another, each by an outcome that is done: from the cells c to z
pub data Refreshes (t : Table) (s : Sight) (W : ℕ) : List ℕ → List ℕ → List ℕ → Type 0 where
  none : {c : List ℕ} → Refreshes t s W [] c c
  more : {b : ℕ} {bs c z : List ℕ} {o : BandsOutcome} {n : ℕ} → o ≡ band_of t s W b c → o.answer ≡ BandsAnswer.Done n → Refreshes t s W bs o.cells z → Refreshes t s W (b ∷ bs) c z

-- ---- alike in every row

-- both tables fit or neither does, of the same height, by sights that agree, and alike in every row of the image
pub record AlikeWhole (t : Table) (s : Sight) (u : Table) (r : Sight) : Type 0 where
  pub fit : CountsFitFor t s ↔ CountsFitFor u r
  pub height : t.height ≡ u.height
  pub sights : Agree s r
  pub rows : (y : ℕ) → y < t.height → AlikeFor y t s u r
