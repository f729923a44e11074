-- What a call tells C: the code's number, which it returns, and five numbers: the place, then the counts, then zeros. Definitions only.
use Rattle.std.specs.Prelude.{List, [], ◌∷◌, ℕ, ◌^◌, ◌-◌, min, ℤ, pos, Result, Ok, Err}
use Rattle.codes.specs.Codes.{number_of}
use Rattle.codes.specs.Refusal.{Refusal}
use Rattle.codes.specs.declared.Code.{Code}
use Rattle.read_list.specs.declared.Read.{Read}
use Rattle.trace2.specs.declared.FileRead.{FileRead}
use Rattle.build_answer.specs.declared.Built.{Built}
use Rattle.segments.specs.declared.Range.{Range}
use Rattle.profile_rules.specs.Rules.{rule_number}
use Rattle.profile.specs.declared.Unmet.{Unmet}
use Rattle.profile.specs.declared.Unmet.TheVariants.{Broken, Refused}
use Rattle.told.specs.declared.Counts.{Counts}
use Rattle.told.specs.declared.Told.{Told}

-- a number as an int64_t
abbrev pub signed_of : ℕ → ℤ
signed_of n = pos (min n (2 ^ 63 - 1))

-- ---- counts

abbrev pub no_counts : Counts
no_counts = record { first = pos 0; second = pos 0; third = pos 0; fourth = pos 0 }

abbrev pub one_count : ℤ → Counts
one_count z = record { first = z; second = pos 0; third = pos 0; fourth = pos 0 }

abbrev pub two_counts : Range → Counts
two_counts r = record { first = pos r.first; second = pos r.past; third = pos 0; fourth = pos 0 }

abbrev pub read_counts : Read → Counts
read_counts r = record { first = pos r.splines; second = pos r.points; third = r.adjustment; fourth = pos 0 }

-- with the edition as the fifth number
abbrev pub file_counts : FileRead → Counts
file_counts r = record { first = pos r.read.splines; second = pos r.read.points; third = r.read.adjustment; fourth = pos r.edition }

abbrev pub built_counts : Built → Counts
built_counts b = record { first = pos b.segments; second = pos b.entries; third = signed_of b.estimate; fourth = pos b.faint }

-- ---- outcomes

-- a refusal has counts of 0
abbrev pub told_refusal : Code → ℕ → Told
told_refusal c p = record { number = number_of c; place = signed_of p; counts = no_counts }

abbrev pub reason_of : Refusal → Told
reason_of (c, p) = told_refusal c p

-- a broken rule is PROFILE at its spline, with the rule's number as first count
abbrev pub unmet_of : Unmet → Told
unmet_of (Broken rule spline) = record { number = number_of Code.Profile; place = signed_of spline; counts = one_count (pos (rule_number rule)) }
unmet_of (Refused c p) = told_refusal c p

-- a success is number 0 at place 0
abbrev pub told_of : {A E : Type 0} → (A → Counts) → (E → Told) → Result A E → Told
told_of counts reason (Ok r) = record { number = 0; place = pos 0; counts = counts r }
told_of counts reason (Err e) = reason e

abbrev pub told_read : Result Read Refusal → Told
told_read = told_of read_counts reason_of

abbrev pub told_file : Result FileRead Refusal → Told
told_file = told_of file_counts reason_of

abbrev pub told_write : Result ℕ Refusal → Told
told_write = told_of (λ n. one_count (signed_of n)) reason_of

abbrev pub told_draw : Result ℕ Refusal → Told
told_draw = told_of (λ n. one_count (signed_of n)) reason_of

abbrev pub told_check : Result ℕ Refusal → Told
told_check = told_of (λ n. one_count (pos n)) reason_of

abbrev pub told_bands : Result ℕ Refusal → Told
told_bands = told_of (λ n. one_count (pos n)) reason_of

abbrev pub told_reach : Result Range Refusal → Told
told_reach = told_of two_counts reason_of

abbrev pub told_hide : Result (Unit {0}) Refusal → Told
told_hide = told_of (λ _. no_counts) reason_of

abbrev pub told_build : Result Built Refusal → Told
told_build = told_of built_counts reason_of

abbrev pub told_profile : Result (Unit {0}) Unmet → Told
told_profile = told_of (λ _. no_counts) unmet_of

abbrev pub told_profile_build : Result Built Unmet → Told
told_profile_build = told_of built_counts unmet_of

-- the five numbers
abbrev pub told_in : Told → List ℤ
told_in t = t.place ∷ t.counts.first ∷ t.counts.second ∷ t.counts.third ∷ t.counts.fourth ∷ []
