-- The calls by their contracts: which outcomes a contract allows, and which runs of drawing. Definitions only.
-- `Post` is a contract as it was proved: what it promises of the parameters, of the answer r, and of the parameters as they come back, which have a prime.
use Rattle.std.specs.Prelude.{◌≡◌, Bool, ℕ, ◌+◌, ◌^◌, ◌≤◌, ◌<◌, length, ℤ, Float}
use mathlib.Core.List.{List, [], ◌∷◌, Permᴰ}
use contract.Lifetimes.{Lfts}
use denote.Bor.{Bor}
use Rattle.approximations.proofs.ln.Reads as ln
use Rattle.list.specs.List.{ListRooms}
use Rattle.reader.specs.Read as reading
use Rattle.reader.proofs.read.Reads as read
use Rattle.writer.specs.Write as writing
use Rattle.writer.proofs.write.Reads as write
use Rattle.write_laws.specs.Floats.{Floats}
use Rattle.shape.specs.declared.Description.{Description as Lent}
use Rattle.shape.specs.Description.{Description, description_in}
use Rattle.table.specs.Table.{Setting, setting_in}
use Rattle.table.specs.Table as building
use Rattle.build_answer.specs.BuildAnswer.{BuildAnswer}
use Rattle.build_answer.specs.BuildAnswer as BuildAnswer
use Rattle.table.proofs.build.Reads as build
use Rattle.desks.specs.Desks.{Sight, sight_of, sight_in}
use Rattle.desks.specs.Agree.{Agree}
use Rattle.desks.specs.Hide.{HideOutcome}
use Rattle.desks.specs.Hide as hiding
use Rattle.desks.proofs.hide.Reads as hide
use Rattle.checks.specs.Tables.{Table, table_in}
use Rattle.draw.specs.Draw.{Channels, three, DrawOutcome, leaves}
use Rattle.segments.specs.declared.Segment.{Segment}
use Rattle.table.specs.Segments.{Makes}
use Rattle.picture.specs.Picture.{built}
use Rattle.checks.specs.Alike.{Kept}
use Rattle.draw.specs.Parts.{Part, cuts, total, cells_of, placed_in, Wide}
use Rattle.draw.specs.Image.{Job, job, jobs, Each, with_row}
use Rattle.draw.specs.Image as drawing
use Rattle.hull.specs.Reach.{ReachOutcome, tells}
use Rattle.draw.proofs.draw.Reads as draw
use Rattle.hull.proofs.reach.Reads as reach

-- ---- outcomes that a contract allows

-- of a list, under two limits, with so many cells lent
pub data ReadCall : List ℕ → ℕ → ℕ → ListRooms → reading.ReadOutcome → Type 0 where
  reads : (κs : Lfts 5) (list : _) (configured : _) (pixels : _) (counts : _) (starts : _) (deltas : _) (coefficients : _) (r : _)
      (list' : _) (configured' : _) (pixels' : _) (counts' : _) (starts' : _) (deltas' : _) (coefficients' : _)
      → read.Post κs (list, (configured, (pixels, (counts, (starts, (deltas, (coefficients, tt))))))) r
      (list', (configured', (pixels', (counts', (starts', (deltas', (coefficients', tt)))))))
      → ReadCall list.now configured pixels (reading.rooms_of counts.now starts.now deltas.now coefficients.now)
      (reading.leaves r counts'.now starts'.now deltas'.now coefficients'.now)

-- of a description, under two limits, with so many cells lent; the starts are f32, as every slice of f32 is that can be lent (the contract of `write_laws::lend`)
pub data WriteCall : List ℕ → List Float → List ℤ → List ℤ → ℤ → ℕ → ℕ → ℕ → writing.WriteOutcome → Type 0 where
  writes : (κs : Lfts 3) (description : Bor Lent) (adjustment : _) (configured : _) (pixels : _) (list : _) (r : _)
      (description' : _) (adjustment' : _) (configured' : _) (pixels' : _) (list' : _)
      → Floats description.now.starts.now → write.Post κs (description, (adjustment, (configured, (pixels, (list, tt))))) r
      (description', (adjustment', (configured', (pixels', (list', tt)))))
      → WriteCall description.now.counts.now description.now.starts.now description.now.deltas.now description.now.coefficients.now adjustment configured pixels (length list.now) (writing.leaves r list'.now)

-- of a description, for an image, with so many cells lent
pub data BuildCall : Description → Setting → building.BuildRooms → building.BuildOutcome → Type 0 where
  builds : (κs : Lfts 8) (description : _) (setting : _) (path : _) (walk : _) (segments : _) (owners : _) (row_starts : _) (entries : _) (r : _)
      (description' : _) (setting' : _) (path' : _) (walk' : _) (segments' : _) (owners' : _) (row_starts' : _) (entries' : _)
      → build.Post κs (description, (setting, (path, (walk, (segments, (owners, (row_starts, (entries, tt)))))))) r
      (description', (setting', (path', (walk', (segments', (owners', (row_starts', (entries', tt))))))))
      → BuildCall (description_in description.now) (setting_in setting)
      (building.rooms_of path.now walk.now segments.now owners.now row_starts.now entries.now)
      (building.leaves r path'.now walk'.now segments'.now owners'.now row_starts'.now entries'.now)

-- of row y of a table for a desk, n pixels from column x0 on, with channels lent that begin there
pub data DrawCall : Table → Sight → ℕ → ℕ → ℕ → Channels → DrawOutcome → Type 0 where
  draws : (κs : Lfts 7) (table : _) (sight : _) (y : _) (x0 : _) (n : _) (r0 : _) (r1 : _) (r2 : _) (r : _)
      (table' : _) (sight' : _) (y' : _) (x0' : _) (n' : _) (r0' : _) (r1' : _) (r2' : _)
      → draw.Post κs (table, (sight, (y, (x0, (n, (r0, (r1, (r2, tt)))))))) r
      (table', (sight', (y', (x0', (n', (r0', (r1', (r2', tt))))))))
      → DrawCall (table_in table.now) (sight_in sight.now) y x0 n (three r0.now r1.now r2.now) (leaves r (three r0'.now r1'.now r2'.now))

-- of row y of a table for a desk, for a width
pub data ReachCall : Table → Sight → ℕ → ℕ → ReachOutcome → Type 0 where
  reaches : (κs : Lfts 4) (table : _) (sight : _) (y : _) (width : _) (r : _)
      (table' : _) (sight' : _) (y' : _) (width' : _)
      → reach.Post κs (table, (sight, (y, (width, tt)))) r
      (table', (sight', (y', (width', tt))))
      → ReachCall (table_in table.now) (sight_in sight.now) y width (tells r)

-- of the shared bytes, for a desk, a spline, and whether it is to be hidden
pub data HideCall : List ℕ → ℕ → ℕ → Bool → HideOutcome → Type 0 where
  hides : (κs : Lfts 1) (bits : _) (desk : _) (spline : _) (hidden : _) (r : _) (bits' : _) (desk' : _) (spline' : _) (hidden' : _)
      → hide.Post κs (bits, (desk, (spline, (hidden, tt)))) r (bits', (desk', (spline', (hidden', tt))))
      → HideCall bits.now desk spline hidden (hiding.leaves r bits'.now)

-- of a number
pub data LnCall : Float → Float → Type 0 where
  logs : (κs : Lfts 0) (x : _) (r : _) (x' : _) → ln.Post κs (x, tt) r (x', tt) → LnCall x r

-- a build that is done, with its counts
pub record BuildDone (d : Description) (i : Setting) (r : building.BuildRooms) (o : building.BuildOutcome) (s e estimate : ℕ) : Type 0 where
  pub called : BuildCall d i r o
  pub faint : ℕ
  pub done : o.answer ≡ BuildAnswer.Done s e estimate faint

-- a table that a build left, in the cells that it filled or wherever it is kept, whatever stands behind its counts; and the segments that the description makes
pub record KeptTable (d : Description) (i : Setting) (segments : List Segment) (t : Table) : Type 0 where
  pub rooms : building.BuildRooms
  pub outcome : building.BuildOutcome
  pub s : ℕ
  pub e : ℕ
  pub estimate : ℕ
  pub done : BuildDone d i rooms outcome s e estimate
  pub kept : Kept (built i outcome s e) t
  pub makes : Makes d i segments

-- ---- runs of drawing

-- the same beside the table, with other bytes lent
abbrev pub with_bits : Sight → List ℕ → Sight
with_bits s bits = sight_of s.owners s.splines bits s.desk

-- a part of row y drawn for a desk by one call: from the row's channels a to b, with a count of updates. The row may be stored anywhere: three slices are lent that begin with the
-- part's cells of the row, as `&mut plane[y * stride + x0..]` or a strip in a buffer of its own, of any lengths; and the row has the cells that come back. Any bytes may be lent that
-- agree with s in the desk's own bits: of the shared bytes, these alone are fixed during the drawing
pub record PartCall (t : Table) (s : Sight) (y : ℕ) (p : Part) (a : Channels) (count : ℕ) (b : Channels) : Type 0 where
  pub lent : Channels
  pub bits : List ℕ
  pub outcome : DrawOutcome
  pub in_row_lem : p.at + p.wide ≤ length a.r0
  pub begins : cells_of 0 p.wide lent ≡ cells_of p.at p.wide a
  pub own_bits : Agree s (with_bits s bits)
  pub called : DrawCall t (with_bits s bits) y p.at p.wide lent outcome
  pub counted : count ≡ outcome.told.updates
  pub comes_back : b ≡ placed_in p.at p.wide a (cells_of 0 p.wide outcome.channels)

-- one part after another, the updates summed
pub data RowCalls (t : Table) (s : Sight) (y : ℕ) : List Part → Channels → ℕ → Channels → Type 0 where
  none : {a : Channels} → RowCalls t s y [] a 0 a
  more : {p : Part} {ps : List Part} {a b w : Channels} {count rest : ℕ} → PartCall t s y p a count b → RowCalls t s y ps b rest w → RowCalls t s y (p ∷ ps) a (count + rest) w

-- a row drawn W pixels wide: cut into adjacent parts, which are drawn in any order
pub record RowRun (t : Table) (s : Sight) (y W : ℕ) (a w : Channels) (sum : ℕ) : Type 0 where
  pub in_image : y < t.height
  pub narrow : W ≤ 2 ^ 23
  pub wide : Wide W a
  pub widths : List ℕ
  pub cut : total widths ≡ W
  pub parts : List Part
  pub order : Permᴰ (cuts 0 widths) parts
  pub drawn : RowCalls t s y parts a sum w

-- the same of all rows, whose parts may be mixed
pub data ImageCalls (t : Table) (s : Sight) : List Job → drawing.Image → ℕ → drawing.Image → Type 0 where
  none : {a : drawing.Image} → ImageCalls t s [] a 0 a
  more : {y : ℕ} {p : Part} {js : List Job} {a w : drawing.Image} {b : Channels} {count rest : ℕ} → PartCall t s y p (a y) count b → ImageCalls t s js (with_row a y b) rest w
      → ImageCalls t s (job y p ∷ js) a (count + rest) w

pub record ImageRun (t : Table) (s : Sight) (W : ℕ) (a w : drawing.Image) (sum : ℕ) : Type 0 where
  pub narrow : W ≤ 2 ^ 23
  pub wide : (y : ℕ) → Wide W (a y)
  pub widths : List (List ℕ)
  pub tall : length widths ≡ t.height
  pub cut : Each W widths
  pub parts : List Job
  pub order : Permᴰ (jobs 0 widths) parts
  pub drawn : ImageCalls t s parts a sum w

-- ---- runs of hides

-- hides of one desk, one after another: from the bytes a to b
pub data HideCalls (desk : ℕ) : List ℕ → List ℕ → Type 0 where
  none : {a : List ℕ} → HideCalls desk a a
  more : {a b : List ℕ} {spline : ℕ} {hidden : Bool} {o : HideOutcome} → HideCall a desk spline hidden o → HideCalls desk o.bits b → HideCalls desk a b
