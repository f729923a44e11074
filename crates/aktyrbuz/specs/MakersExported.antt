-- What the export for another maker's table returns and leaves, as in Exported.antt. Definitions only.
use Rattle.std.specs.Prelude.{List, ℕ, ℤ}
use Rattle.makers.specs.CheckAnswer.{CheckAnswer}
use Rattle.told.specs.Told.{told_check, told_in}

pub record CheckExport : Type 0 where
  pub number : ℕ
  pub answer : List ℤ

abbrev pub check_leaves : ℕ → List ℤ → CheckExport
check_leaves r five = record { number = r; answer = five }

abbrev pub check_export : CheckAnswer → CheckExport
check_export r = check_leaves (told_check r).number (told_in (told_check r))
