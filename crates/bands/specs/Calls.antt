-- The two calls of a summary, making and refreshing: their checks in order, and what they answer and leave. Definitions only.
use Rattle.std.specs.Prelude.{List, ℕ, ◌*◌, ◌^◌, leb, ltb, length, replicate}
use Rattle.codes.specs.Codes.{number_of}
use Rattle.codes.specs.declared.Code.{Code}
use Rattle.desks.specs.Desks.{Sight, desk_good, bytes_good}
use Rattle.checks.specs.Tables.{Table}
use Rattle.checks.specs.Checks.{counts_good_for, or_fault}
use Rattle.checks.specs.Verdict.{Verdict, Fine, Fault}
use Rattle.bands.specs.BandsAnswer.{BandsAnswer, Done, Refused}
use Rattle.bands.specs.Bands.{bands_in, rows_good_from, band_good, band_numbers, put_band, put_bands}

-- ---- the checks

-- SIZE, TABLE for the counts, DESK, TRACE and ROOM for all bands, and then what comes after
unfoldable pub before_rows : Table → Sight → ℕ → ℕ → Verdict → Verdict
before_rows t s W room after =
    or_fault (leb W (2 ^ 23)) Code.Size
    (or_fault (counts_good_for t s) Code.Table
    (or_fault (desk_good s) Code.Desk (or_fault (bytes_good s) Code.Trace (or_fault (leb (5 * bands_in t.height) room) Code.Room after))))

-- making: TABLE for every row
unfoldable pub judge_bands : Table → Sight → ℕ → ℕ → Verdict
judge_bands t s W room = before_rows t s W room (or_fault (rows_good_from t s 0 t.height) Code.Table Fine)

-- refreshing band b: BAND, then TABLE for its rows
unfoldable pub judge_band : Table → Sight → ℕ → ℕ → ℕ → Verdict
judge_band t s W room b = before_rows t s W room (or_fault (ltb b (bands_in t.height)) Code.Band (or_fault (band_good t s b) Code.Table Fine))

-- ---- answers

-- an answer in the terms of the table of codes: the code's number, the place and how many bands the table has
pub record BandsTold : Type 0 where
  pub number : ℕ
  pub place : ℕ
  pub bands : ℕ

abbrev pub told_of : BandsAnswer → BandsTold
told_of (Done n) = record { number = 0; place = 0; bands = n }
told_of (Refused c p) = record { number = number_of c; place = p; bands = 0 }

-- the answer, what it tells, and every lent cell
pub record BandsOutcome : Type 0 where
  pub answer : BandsAnswer
  pub told : BandsTold
  pub cells : List ℕ

abbrev pub leaves : BandsAnswer → List ℕ → BandsOutcome
leaves r cells = record { answer = r; told = told_of r; cells = cells }

-- ---- the calls

-- by a verdict: n bands with these cells, or a refusal with those
abbrev pub by_verdict : Verdict → ℕ → List ℕ → List ℕ → BandsOutcome
by_verdict Fine n done refused = leaves (Done n) done
by_verdict (Fault c) n done refused = leaves (Refused c 0) refused

-- the summary made afresh in so many cells, with zeros behind the last band
abbrev pub fresh_cells : Table → Sight → ℕ → ℕ → List ℕ
fresh_cells t s W room = put_bands (replicate room 0) (band_numbers t s W) (bands_in t.height)

-- what making answers and leaves in so many cells; a refused making leaves zeros
unfoldable pub bands_of : Table → Sight → ℕ → ℕ → BandsOutcome
bands_of t s W room = by_verdict (judge_bands t s W room) (bands_in t.height) (fresh_cells t s W room) (replicate room 0)

-- what refreshing band b answers and leaves of these cells; a refused refresh changes nothing
unfoldable pub band_of : Table → Sight → ℕ → ℕ → List ℕ → BandsOutcome
band_of t s W b cells = by_verdict (judge_band t s W (length cells) b) (bands_in t.height) (put_band cells b (band_numbers t s W b)) cells
