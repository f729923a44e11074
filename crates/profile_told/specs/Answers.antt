-- The names of the answers of building by profile: what is built, a broken rule, or a code. Definitions only.
use Rattle.std.specs.Prelude.{ℕ, Result, Ok}
use Rattle.build_answer.specs.declared.Built.{Built}
use Rattle.profile.specs.declared.Unmet.{Unmet}
pub use Rattle.profile.specs.Answers.{Broken, Refused}

abbrev pub ProfileBuildAnswer : Type 0
ProfileBuildAnswer = Result Built Unmet

-- so many segments and entries, the estimate, and how many segments are faint
abbrev pub Done : ℕ → ℕ → ℕ → ℕ → ProfileBuildAnswer
Done s n a f = Ok (record { segments = s; entries = n; estimate = a; faint = f })
