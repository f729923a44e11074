-- The check of a row table that another maker offers for our segments: which rows are right, and what the check answers. Definitions only.
-- S segments stand in `segs`, n entries in `entries`; `starts` are the row starts of an image of H rows; `has i y` tells whether segment i has row y.
use Rattle.std.specs.Prelude.{◌≡◌, Bool, true, false, cond, ◌&&◌, List, [], ◌∷◌, ℕ, zero, suc, ◌*◌, ◌^◌, ◌≤◌, leb, eqb, Float, length, get_or}
use Rattle.codes.specs.Codes.{number_of}
use Rattle.codes.specs.declared.Code.{Code}
use Rattle.rows.specs.Rows.{listed, entries_between, in_row}
use Rattle.checks.specs.Tables.{Table}
use Rattle.makers.specs.CheckAnswer.{CheckAnswer}
use Rattle.makers.specs.CheckAnswer.{Done, Refused}

-- ---- a row

abbrev pub same_list : List ℕ → List ℕ → Bool
same_list [] [] = true
same_list [] (b ∷ ys) = false
same_list (a ∷ xs) [] = false
same_list (a ∷ xs) (b ∷ ys) = eqb a b && same_list xs ys

-- the two starts of row y do not descend nor pass the entry count
abbrev pub starts_good : List ℕ → ℕ → ℕ → Bool
starts_good starts n y = leb (get_or starts y 0) (get_or starts (suc y) 0) && leb (get_or starts (suc y) 0) n

module _ (has : ℕ → ℕ → Bool) (S : ℕ) (starts entries : List ℕ) (n : ℕ) where
  -- row y is right: its starts are good, and it lists precisely the segments that have it, once each, ascending
  unfoldable pub row_right : ℕ → Bool
  row_right y = starts_good starts n y && same_list (entries_between starts entries y) (listed has y S)

  -- the same as a statement
  pub record RowRight (y : ℕ) : Type 0 where
    pub rises : get_or starts y 0 ≤ get_or starts (suc y) 0
    pub ends : get_or starts (suc y) 0 ≤ n
    pub lists : entries_between starts entries y ≡ listed has y S

-- the first of m rows from y on that is wrong, or the one after them
unfoldable pub wrong_from : (ℕ → Bool) → ℕ → ℕ → ℕ
wrong_from right y zero = y
wrong_from right y (suc m) = cond (right y) (wrong_from right (suc y) m) y

-- ---- the call

-- a check: where it fails, its code at place 0 is the answer, else what comes after it
abbrev pub or_refuse : Bool → Code → CheckAnswer → CheckAnswer
or_refuse true c after = after
or_refuse false c after = Refused c 0

-- the counts are in the buffers and not above 2^24 segments and 2^30 entries
unfoldable pub offered_counts_good : List Float → ℕ → List ℕ → ℕ → Bool
offered_counts_good segs S entries n = leb S (2 ^ 24) && leb (8 * S) (length segs) && leb n (2 ^ 30) && leb n (length entries)

-- by the first wrong row w of H: TABLE there, or at H where entries are left over after the last row
abbrev pub by_rows : ℕ → ℕ → ℕ → ℕ → CheckAnswer
by_rows H last n w = cond (leb H w && eqb last n) (Done n) (Refused Code.Table w)

unfoldable pub check_of : List Float → ℕ → ℕ → List ℕ → List ℕ → ℕ → CheckAnswer
check_of segs S H starts entries n =
    or_refuse (leb H (2 ^ 23)) Code.Size
    (or_refuse (eqb (length starts) (suc H)) Code.Shape
    (or_refuse (offered_counts_good segs S entries n) Code.Table
    (or_refuse (eqb (get_or starts 0 0) 0) Code.Table
    (by_rows H (get_or starts H 0) n (wrong_from (row_right (in_row segs) S starts entries n) 0 H)))))

-- of a table that is offered
abbrev pub check_in : Table → CheckAnswer
check_in t = check_of t.segments t.segment_count t.height t.row_starts t.entries t.entry_count

-- an answer in the terms of the table of codes: the code's number, the place and the entries
pub record CheckTold : Type 0 where
  pub number : ℕ
  pub place : ℕ
  pub entries : ℕ

abbrev pub told_of : CheckAnswer → CheckTold
told_of (Done n) = record { number = 0; place = 0; entries = n }
told_of (Refused c p) = record { number = number_of c; place = p; entries = 0 }
