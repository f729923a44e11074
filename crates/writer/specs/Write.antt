-- Writing a description as a list: the checks with the room last, and what `write` leaves.
use Rattle.std.specs.Prelude.{List, [], ◌∷◌, ◌++◌, ℕ, ◌-◌, ltb, length, replicate, ℤ, Float}
use Rattle.codes.specs.Codes.{number_of}
use Rattle.codes.specs.declared.Code.TheVariants.{Room}
use Rattle.shape.specs.Description.{Description}
use Rattle.list.specs.List.{limit_of}
use Rattle.write_judge.specs.Verdict.{Verdict}
use Rattle.write_judge.specs.Verdict.{Fine, Fault}
pub use Rattle.write_judge.specs.Judge.{Check, check}
unfoldable pub use Rattle.write_judge.specs.Judge.{first_fault, misshapen, miscounted, unfit, unfit_as, start_checks, delta_checks, spline_checks, content_checks}
pub use Rattle.write_steps.specs.Steps.{whole_of}
unfoldable pub use Rattle.write_steps.specs.Steps.{values_of}
use Rattle.writer.specs.WriteAnswer.{WriteAnswer, Done, Refused}

-- an answer in the terms of the table of codes: the code's number, the place, and how many values were written
pub record WriteTold : Type 0 where
  pub number : ℕ
  pub place : ℕ
  pub values : ℕ

-- a success is number 0 at place 0; a refusal has a count of 0
abbrev pub told_of : WriteAnswer → WriteTold
told_of (Done n) = record { number = 0; place = 0; values = n }
told_of (Refused c p) = record { number = number_of c; place = p; values = 0 }

-- the answer, what it tells, and every cell of the lent list
pub record WriteOutcome : Type 0 where
  pub answer : WriteAnswer
  pub told : WriteTold
  pub list : List ℕ

abbrev pub leaves : WriteAnswer → List ℕ → WriteOutcome
leaves r l = record { answer = r; told = told_of r; list = l }

-- the values and then zeros, or a refusal and zeros
abbrev pub outcome : ℕ → List ℕ → Verdict → WriteOutcome
outcome room values Fine = leaves (Done (length values)) (values ++ replicate (room - length values) 0)
outcome room values (Fault c p) = leaves (Refused c p) (replicate room 0)

-- what `write` answers and leaves in a list of so many cells
unfoldable pub write_of : List ℕ → List Float → List ℤ → List ℤ → ℤ → ℕ → ℕ → ℕ → WriteOutcome
write_of counts starts deltas coefficients adjustment configured pixels room =
    let values = values_of counts starts deltas coefficients adjustment in
    outcome room values
    (first_fault (content_checks counts starts deltas coefficients (limit_of configured pixels) ++ check (ltb room (length values)) Room room ∷ []))

abbrev pub write_in : Description → ℤ → ℕ → ℕ → ℕ → WriteOutcome
write_in d adjustment configured pixels room = write_of d.counts d.starts d.deltas d.coefficients adjustment configured pixels room
