-- `hide`: one bit of one byte set or cleared. Definitions only.
use Rattle.std.specs.Prelude.{◌≡◌, Bool, cond, List, ℕ, ◌+◌, ◌-◌, ◌*◌, ◌/◌, ◌%◌, ◌^◌, ◌≤◌, ◌<◌, ltb, length, get_or, set}
use Rattle.codes.specs.Codes.{number_of}
use Rattle.codes.specs.declared.Code.{Code}
use Rattle.desks.specs.HideAnswer.{HideAnswer, Done, Refused}

-- the byte with the desk's bit as asked
unfoldable pub with_bit : ℕ → Bool → ℕ → ℕ
with_bit desk hidden byte = byte - byte / 2 ^ desk % 2 * 2 ^ desk + cond hidden (2 ^ desk) 0

-- an answer in the terms of the table of codes: the code's number and the place
pub record HideTold : Type 0 where
  pub number : ℕ
  pub place : ℕ

abbrev pub told_of : HideAnswer → HideTold
told_of Done = record { number = 0; place = 0 }
told_of (Refused c p) = record { number = number_of c; place = p }

-- the answer, what it tells, and every lent byte
pub record HideOutcome : Type 0 where
  pub answer : HideAnswer
  pub told : HideTold
  pub bits : List ℕ

abbrev pub leaves : HideAnswer → List ℕ → HideOutcome
leaves r bits = record { answer = r; told = told_of r; bits = bits }

-- what `hide` answers and leaves: the desk, then the spline's byte, and only then a bit
unfoldable pub hide_of : List ℕ → ℕ → ℕ → Bool → HideOutcome
hide_of bits desk spline hidden =
    cond (ltb desk 2)
    (cond (ltb spline (length bits)) (leaves Done (set bits spline (with_bit desk hidden (get_or bits spline 0)))) (leaves (Refused Code.Trace 0) bits))
    (leaves (Refused Code.Desk 0) bits)

-- the codes of hide, and when each is given
pub data HideRefusal (bits : List ℕ) (desk spline : ℕ) : Code → ℕ → Type 0 where
  -- 19: a desk other than 0 or 1
  desk : 2 ≤ desk → HideRefusal bits desk spline Code.Desk 0
  -- 20: a spline without a byte, whether its bit is to be set or cleared
  trace : desk < 2 → length bits ≤ spline → HideRefusal bits desk spline Code.Trace 0

-- ---- a run of hides

-- hides of one desk, one after another, each by an outcome that the contract of `hide` allows: from the bytes a to b
pub data Hides (desk : ℕ) : List ℕ → List ℕ → Type 0 where
  none : {a : List ℕ} → Hides desk a a
  more : {a b : List ℕ} (spline : ℕ) (hidden : Bool) {o : HideOutcome} → o ≡ hide_of a desk spline hidden → Hides desk o.bits b → Hides desk a b
