-- The contract of the check is an equation, and its answer is what the export leaves.
use mathlib.Core.Path.{◌≡◌}
use Prim.Native.Nat.{ℕ}
use mathlib.Core.List.{List}
use lib.IntN.{ℤ}
use Rattle.checks.specs.Tables.{Table}
use Rattle.makers.specs.CheckAnswer.{CheckAnswer}
use Rattle.makers.specs.Check.{check_of}
use Rattle.told.specs.Told.{told_check, told_in}
use Rattle.aktyrbuz.specs.MakersExported.{check_leaves, check_export}
use Rattle.aktyrbuz.specs.MakersCalls.{CheckCall, checks}

pub check_exported : {o : CheckAnswer} (r : CheckAnswer) (k : ℕ) (five : List ℤ)
    → r ≡ o → k ≡ (told_check r).number → five ≡ told_in (told_check r)
    → check_leaves k five ≡ check_export o
check_exported r k five p q s = rw (← p, s, q)

pub check_equation : (t : Table) (o : CheckAnswer) → CheckCall t o → o ≡ check_of t.segments t.segment_count t.height t.row_starts t.entries t.entry_count
check_equation t o (checks κs _ _ _ p) = p

-- Assumes nothing.
