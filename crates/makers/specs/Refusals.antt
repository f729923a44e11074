-- Which tables are accepted, and what is refused with which code and place, in the words of the request. Definitions only.
-- That the check answers exactly so is proofs/Refusals.antt of `makers_laws`.
use Rattle.std.specs.Prelude.{◌≡◌, List, ℕ, suc, ◌*◌, ◌^◌, ◌≤◌, ◌<◌, Float, length, get_or}
use Rattle.codes.specs.declared.Code.{Code}
use Rattle.rows.specs.Rows.{in_row}
use Rattle.makers.specs.Check.{RowRight}

-- ---- the counts

-- every count is within its limit and its buffer
pub record OfferedCountsFit (segs : List Float) (S : ℕ) (entries : List ℕ) (n : ℕ) : Type 0 where
  pub few_segments : S ≤ 2 ^ 24
  pub segments_fit : 8 * S ≤ length segs
  pub few_entries : n ≤ 2 ^ 30
  pub entries_fit : n ≤ length entries

-- a count that exceeds its limit or overruns its buffer
pub data OfferedOverrun (segs : List Float) (S : ℕ) (entries : List ℕ) (n : ℕ) : Type 0 where
  many_segments : 2 ^ 24 < S → OfferedOverrun segs S entries n
  segments_short : length segs < 8 * S → OfferedOverrun segs S entries n
  many_entries : 2 ^ 30 < n → OfferedOverrun segs S entries n
  entries_short : length entries < n → OfferedOverrun segs S entries n

module _ (segs : List Float) (S H : ℕ) (starts entries : List ℕ) (n : ℕ) where
  -- the image is not too high, the row starts are one more than the rows, and the counts fit
  pub record Fits : Type 0 where
    pub low : H ≤ 2 ^ 23
    pub tall : length starts ≡ suc H
    pub counts : OfferedCountsFit segs S entries n

  -- ---- the rows

  -- row y is right; a first start other than 0 makes row 0 wrong
  pub record RowGood (y : ℕ) : Type 0 where
    pub begins : y ≡ 0 → get_or starts 0 0 ≡ 0
    pub right : RowRight (in_row segs) S starts entries n y

  -- the table is the one: the first row starts at 0, every row of the image is right, and the last row ends with the entries
  pub record TableRight : Type 0 where
    pub begins : get_or starts 0 0 ≡ 0
    pub rows : (y : ℕ) → y < H → RowRight (in_row segs) S starts entries n y
    pub closes : get_or starts H 0 ≡ n

  -- where a table is wrong first: the least row that is wrong; in an image without rows a first start other than 0; or the height, where entries are left after the last row
  pub data FirstWrong : ℕ → Type 0 where
    wrong_row : {w : ℕ} → w < H → ((y : ℕ) → y < w → RowGood y) → (RowGood w → ⊥) → FirstWrong w
    first_start : H ≡ 0 → (get_or starts 0 0 ≡ 0 → ⊥) → FirstWrong H
    left_over : get_or starts 0 0 ≡ 0 → ((y : ℕ) → y < H → RowGood y) → get_or starts H 0 < n → FirstWrong H

  -- ---- the answers

  pub record CheckAccepted (m : ℕ) : Type 0 where
    pub fits : Fits
    pub right : TableRight
    pub told : m ≡ n

  pub data CheckRefusal : Code → ℕ → Type 0 where
    size : 2 ^ 23 < H → CheckRefusal Code.Size 0
    shape : H ≤ 2 ^ 23 → (length starts ≡ suc H → ⊥) → CheckRefusal Code.Shape 0
    counts : H ≤ 2 ^ 23 → length starts ≡ suc H → OfferedOverrun segs S entries n → CheckRefusal Code.Table 0
    row : {w : ℕ} → Fits → FirstWrong w → CheckRefusal Code.Table w
