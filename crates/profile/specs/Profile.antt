-- The fineness profile: the six rules of a description in their order, and what a check answers. Definitions only.
use Rattle.std.specs.Prelude.{cond, List, [], ◌∷◌, ℕ, suc, ℤ, length}
use Rattle.codes.specs.Codes.{number_of}
use Rattle.codes.specs.declared.Code.TheVariants as Code
use Rattle.shape.specs.Shape as Shape
use Rattle.dequantize.specs.Judge.{Description}
use Rattle.editions.specs.declared.Limits.{Limits}
use Rattle.editions.specs.Editions.{Edition, Known, Unknown}
use Rattle.profile_rules.specs.declared.Rule.TheVariants as Rule
use Rattle.profile_rules.specs.Checked.{Checked}
use Rattle.profile_rules.specs.Checked as found
pub use Rattle.editions.specs.Editions.{edition1, edition2}
unfoldable pub use Rattle.editions.specs.Editions.{limits_of}
pub use Rattle.profile_rules.specs.Rules.{rule_number, kept, first_broken, counted, within}
unfoldable pub use Rattle.profile_rules.specs.Rules.{zero_from, check_deltas, check_sigma, check_colour, check_spline}
use Rattle.profile.specs.Answers.{ProfileAnswer, Meets, Broken, Refused}

-- ---- a description

-- splines with these counts, of which the first is the spline k
unfoldable pub check_splines : Limits → List ℕ → List ℤ → ℕ → Checked
check_splines l [] cs k = found.Kept
check_splines l (n ∷ ns) cs k = first_broken (check_spline l n cs k) (check_splines l ns cs (suc k))

-- 1: 1 to 4096 splines; 3: the adjustment; then spline by spline
unfoldable pub check_rules : Limits → List ℕ → List ℤ → ℤ → Checked
check_rules l ns cs adjustment =
    first_broken (kept (counted 4096 (length ns)) Rule.Splines 0)
    (first_broken (kept (within l.least l.greatest adjustment) Rule.Adjustment 0)
    (check_splines l ns cs 0))

abbrev pub answered : Checked → ProfileAnswer
answered found.Kept = Meets
answered (found.Broken rule spline) = Broken rule spline

-- ---- what a check answers

-- an answer in the terms of the table of codes: the code's number, the place, and the first count
pub record ProfileTold : Type 0 where
  pub number : ℕ
  pub place : ℕ
  pub first : ℕ

-- a success is number 0 at place 0 with a count of 0; a broken rule is PROFILE at its spline, with the rule's number as first count; any other refusal has a count of 0
abbrev pub told_of : ProfileAnswer → ProfileTold
told_of Meets = record { number = 0; place = 0; first = 0 }
told_of (Broken rule spline) = record { number = number_of Code.Profile; place = spline; first = rule_number rule }
told_of (Refused c p) = record { number = number_of c; place = p; first = 0 }

pub record ProfileOutcome : Type 0 where
  pub answer : ProfileAnswer
  pub told : ProfileTold

abbrev pub tells : ProfileAnswer → ProfileOutcome
tells r = record { answer = r; told = told_of r }

abbrev pub by_edition : Edition → List ℕ → List ℤ → ℤ → ProfileAnswer
by_edition Unknown ns cs adjustment = Refused Code.Edition 0
by_edition (Known l) ns cs adjustment = answered (check_rules l ns cs adjustment)

-- SHAPE, EDITION, then the rules
unfoldable pub answer_of : Description → ℤ → ℕ → ProfileAnswer
answer_of d adjustment edition =
    cond (Shape.shaped d.counts d.starts d.deltas d.coefficients) (by_edition (limits_of edition) d.counts d.coefficients adjustment) (Refused Code.Shape 0)

unfoldable pub profile_of : Description → ℤ → ℕ → ProfileOutcome
profile_of d adjustment edition = tells (answer_of d adjustment edition)
