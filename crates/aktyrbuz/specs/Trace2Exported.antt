-- What the exports for trace files of either version return and leave: as Exported.antt has it, with the edition as the fifth number. Definitions only.
use Rattle.std.specs.Prelude.{List, [], ◌∷◌, ℤ, pos}
use Rattle.trace2.specs.Read.{FileOutcome}
use Rattle.told.specs.Told.{told_read}
use Rattle.aktyrbuz.specs.Exported.{ReadExport, read_leaves}

-- the five numbers: place, splines, points, adjustment, edition
abbrev pub file_five : FileOutcome → List ℤ
file_five o =
    (told_read o.read.answer).place ∷ (told_read o.read.answer).counts.first ∷ (told_read o.read.answer).counts.second ∷ (told_read o.read.answer).counts.third ∷ pos o.edition ∷ []

abbrev pub file_export : FileOutcome → ReadExport
file_export o = read_leaves (told_read o.read.answer).number (file_five o) o.read.counts o.read.starts o.read.deltas o.read.coefficients
