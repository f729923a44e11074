-- What an answer of building by profile tells. Definitions only.
use Rattle.std.specs.Prelude.{ℕ, Ok}
use Rattle.codes.specs.Codes.{number_of}
use Rattle.codes.specs.declared.Code.{Code}
use Rattle.profile_rules.specs.Rules.{rule_number}
use Rattle.profile_told.specs.Answers.{ProfileBuildAnswer, Broken, Refused}

-- an answer in the terms of the table of codes: the code's number, the place, and the counts
pub record ProfileBuildTold : Type 0 where
  pub number : ℕ
  pub place : ℕ
  pub first : ℕ
  pub second : ℕ
  pub third : ℕ
  pub fourth : ℕ

-- a refusal has counts of 0, but for the rule that is broken
abbrev pub refusal_told : Code → ℕ → ℕ → ProfileBuildTold
refusal_told c p count = record { number = number_of c; place = p; first = count; second = 0; third = 0; fourth = 0 }

-- a success has the counts of a build: segments, entries, the estimate, and how many segments are faint; a broken rule is PROFILE at its spline, with the rule's number as first count; any other refusal has counts of 0
abbrev pub told_of : ProfileBuildAnswer → ProfileBuildTold
told_of (Ok b) = record { number = 0; place = 0; first = b.segments; second = b.entries; third = b.estimate; fourth = b.faint }
told_of (Broken rule spline) = refusal_told Code.Profile spline (rule_number rule)
told_of (Refused c p) = refusal_told c p 0
