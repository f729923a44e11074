-- The names of what a check of rules answers: every rule is kept, or a rule and the spline that breaks it first. Definitions only.
use Rattle.std.specs.Prelude.{ℕ, Result, Ok, Err}
use Rattle.profile_rules.specs.declared.Rule.{Rule}

abbrev pub Checked : Type 0
Checked = Result (Unit {0}) (Rule × ℕ)

pattern abbrev pub Kept : Checked
Kept = Ok tt

pattern abbrev pub Broken : Rule → ℕ → Checked
Broken rule spline = Err (rule, spline)
