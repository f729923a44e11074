-- The names of the answers: a description meets the profile, or a rule is broken, or a code refuses it. Definitions only.
use Rattle.std.specs.Prelude.{ℕ, Result, Ok, Err}
use Rattle.codes.specs.declared.Code.{Code}
use Rattle.profile_rules.specs.declared.Rule.{Rule}
use Rattle.profile.specs.declared.Unmet.{Unmet}

abbrev pub ProfileAnswer : Type 0
ProfileAnswer = Result (Unit {0}) Unmet

pattern abbrev pub Meets : ProfileAnswer
Meets = Ok tt

-- these two are answers of a build by profile as well
pattern abbrev pub Broken : {A : Type 0} → Rule → ℕ → Result A Unmet
Broken rule spline = Err (Unmet.Broken rule spline)

pattern abbrev pub Refused : {A : Type 0} → Code → ℕ → Result A Unmet
Refused code place = Err (Unmet.Refused code place)
