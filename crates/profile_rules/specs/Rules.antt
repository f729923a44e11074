-- The rules of one spline of the fineness profile, as tests in their order. Definitions only.
-- The rules have the numbers 1 to 6. A spline's coefficients are 128 numbers in a row: 32 each for X, Y, B and sigma.
use Rattle.std.specs.Prelude.{Bool, true, false, cond, List, ℕ, zero, suc, ◌+◌, ◌*◌, leb, ℤ, pos, get_or}
use Rattle.std.specs.Int.Signed.{le_z}
use Rattle.editions.specs.declared.Limits.{Limits}
use Rattle.profile_rules.specs.declared.Rule.{Rule}
use Rattle.profile_rules.specs.declared.Rule.TheVariants.{Splines, Deltas, Adjustment, SigmaTail, FirstSigma, Colour}
use Rattle.profile_rules.specs.Checked.{Checked, Kept, Broken}

-- the number by which the profile names a rule
abbrev pub rule_number : Rule → ℕ
rule_number Splines = 1
rule_number Deltas = 2
rule_number Adjustment = 3
rule_number SigmaTail = 4
rule_number FirstSigma = 5
rule_number Colour = 6

-- ---- what a check answers

-- a rule of a spline, kept where the test passes
abbrev pub kept : Bool → Rule → ℕ → Checked
kept true rule spline = Kept
kept false rule spline = Broken rule spline

-- the first broken rule of two checks
abbrev pub first_broken : Checked → Checked → Checked
first_broken Kept b = b
first_broken (Broken rule spline) b = Broken rule spline

-- ---- tests

-- 1 to the most
abbrev pub counted : ℕ → ℕ → Bool
counted most n = cond (leb 1 n) (leb n most) false

abbrev pub within : ℤ → ℤ → ℤ → Bool
within least greatest z = cond (le_z least z) (le_z z greatest) false

-- so many numbers from an index on are all 0
unfoldable pub zero_from : List ℤ → ℕ → ℕ → Bool
zero_from cs from zero = true
zero_from cs from (suc n) = cond (within (pos 0) (pos 0) (get_or cs from (pos 0))) (zero_from cs (suc from) n) false

-- ---- the rules of the spline k, which has n double deltas

-- 2: 1 to the most double deltas
unfoldable pub check_deltas : Limits → ℕ → ℕ → Checked
check_deltas l n k = kept (counted l.deltas n) Deltas k

-- 4: sigma coefficients zero after the first; 5: the first sigma coefficient from 1 to the most
unfoldable pub check_sigma : Limits → List ℤ → ℕ → Checked
check_sigma l cs k =
    first_broken (kept (zero_from cs (128 * k + 97) 31) SigmaTail k) (kept (within (pos 1) l.sigma (get_or cs (128 * k + 96) (pos 0))) FirstSigma k)

-- 6: X coefficients all zero, and B coefficients
unfoldable pub check_colour : List ℤ → ℕ → Checked
check_colour cs k = first_broken (kept (zero_from cs (128 * k) 32) Colour k) (kept (zero_from cs (128 * k + 64) 32) Colour k)

unfoldable pub check_spline : Limits → ℕ → List ℤ → ℕ → Checked
check_spline l n cs k = first_broken (check_deltas l n k) (first_broken (check_sigma l cs k) (check_colour cs k))
