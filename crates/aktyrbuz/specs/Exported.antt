-- What the exported calls return and leave: a layer's outcome in the terms of the C interface. Definitions only.
-- Five numbers tell an answer: the place, then the counts, then zeros.
use Rattle.std.specs.Prelude.{List, ℕ, ℤ, Float}
use Rattle.reader.specs.Read.{ReadOutcome}
use Rattle.writer.specs.Write.{WriteOutcome}
use Rattle.table.specs.Table.{BuildOutcome}
use Rattle.draw.specs.Draw.{Channels, DrawOutcome}
use Rattle.hull.specs.Reach.{ReachOutcome}
use Rattle.desks.specs.Hide.{HideOutcome}
use Rattle.told.specs.Told.{told_read, told_write, told_build, told_draw, told_reach, told_hide, told_in}

-- the number returned, the five numbers, and every lent cell
pub record ReadExport : Type 0 where
  pub number : ℕ
  pub answer : List ℤ
  pub counts : List ℕ
  pub starts : List Float
  pub deltas : List ℤ
  pub coefficients : List ℤ

abbrev pub read_leaves : ℕ → List ℤ → List ℕ → List Float → List ℤ → List ℤ → ReadExport
read_leaves r five ns zs ds cs = record { number = r; answer = five; counts = ns; starts = zs; deltas = ds; coefficients = cs }

abbrev pub read_export : ReadOutcome → ReadExport
read_export o =
    read_leaves (told_read o.answer).number (told_in (told_read o.answer)) o.counts o.starts o.deltas o.coefficients

pub record WriteExport : Type 0 where
  pub number : ℕ
  pub answer : List ℤ
  pub list : List ℕ

abbrev pub write_leaves : ℕ → List ℤ → List ℕ → WriteExport
write_leaves r five l = record { number = r; answer = five; list = l }

abbrev pub write_export : WriteOutcome → WriteExport
write_export o = write_leaves (told_write o.answer).number (told_in (told_write o.answer)) o.list

pub record BuildExport : Type 0 where
  pub number : ℕ
  pub answer : List ℤ
  pub path : List Float
  pub walk : List Float
  pub segments : List Float
  pub owners : List ℕ
  pub starts : List ℕ
  pub entries : List ℕ

abbrev pub build_leaves : ℕ → List ℤ → List Float → List Float → List Float → List ℕ → List ℕ → List ℕ → BuildExport
build_leaves r five path walk segments owners starts entries = record {
  number = r;
  answer = five;
  path = path;
  walk = walk;
  segments = segments;
  owners = owners;
  starts = starts;
  entries = entries;
}

abbrev pub build_export : BuildOutcome → BuildExport
build_export t =
    build_leaves (told_build t.answer).number (told_in (told_build t.answer)) t.path t.walk t.segments t.owners t.starts t.entries

pub record DrawExport : Type 0 where
  pub number : ℕ
  pub answer : List ℤ
  pub channels : Channels

abbrev pub draw_leaves : ℕ → List ℤ → Channels → DrawExport
draw_leaves r five a = record { number = r; answer = five; channels = a }

abbrev pub draw_export : DrawOutcome → DrawExport
draw_export o = draw_leaves (told_draw o.answer).number (told_in (told_draw o.answer)) o.channels

pub record ReachExport : Type 0 where
  pub number : ℕ
  pub answer : List ℤ

abbrev pub reach_leaves : ℕ → List ℤ → ReachExport
reach_leaves r five = record { number = r; answer = five }

abbrev pub reach_export : ReachOutcome → ReachExport
reach_export o = reach_leaves (told_reach o.answer).number (told_in (told_reach o.answer))

pub record HideExport : Type 0 where
  pub number : ℕ
  pub answer : List ℤ
  pub bits : List ℕ

abbrev pub hide_leaves : ℕ → List ℤ → List ℕ → HideExport
hide_leaves r five bits = record { number = r; answer = five; bits = bits }

abbrev pub hide_export : HideOutcome → HideExport
hide_export o = hide_leaves (told_hide o.answer).number (told_in (told_hide o.answer)) o.bits
