-- The exported calls by their contracts: which outcomes a contract allows, and that each is an outcome of its call, told in C's terms. Definitions only.
-- `Post` is a contract as it was proved: what it promises of the parameters, of the number r that is returned, and of the parameters as they come back, which have a prime.
-- So a demand on a call (crate `aktyrbuz`, specs/Demands.antt) holds of its export: whatever an export returns and leaves is `read_export` and so on of an outcome that the demand speaks of.
use Rattle.std.specs.Prelude.{◌≡◌, List, ℕ, length, ℤ, Float}
use contract.Lifetimes.{Lfts}
use denote.Bor.{Bor}
use Rattle.list.specs.List.{ListRooms}
use Rattle.reader.specs.Read as reading
use Rattle.write_laws.specs.Floats.{Floats}
use Rattle.dequantize.specs.Judge.{Description, description_of}
use Rattle.table.specs.Table.{Setting, setting_of}
use Rattle.table.specs.Table as building
use Rattle.desks.specs.Desks.{Sight, sight_of}
use Rattle.draw.specs.Draw.{Table, table_of, Channels, three}
use Rattle.aktyrbuz.specs.Exported.{ReadExport, read_leaves, read_export, WriteExport, write_leaves, write_export, BuildExport, build_leaves, build_export, DrawExport, draw_leaves, draw_export, ReachExport, reach_leaves, reach_export}
use Rattle.aktyrbuz.specs.Calls.{ReadCall, WriteCall, BuildCall, DrawCall, ReachCall, LnCall}
use Rattle.aktyrbuz.proofs.aktyrbuz_read.Reads as read-contract
use Rattle.aktyrbuz.proofs.aktyrbuz_write.Reads as write-contract
use Rattle.aktyrbuz.proofs.aktyrbuz_build.Reads as build-contract
use Rattle.aktyrbuz.proofs.aktyrbuz_draw.Reads as draw-contract
use Rattle.aktyrbuz.proofs.aktyrbuz_reach.Reads as reach-contract
use Rattle.aktyrbuz.proofs.aktyrbuz_ln.Reads as ln-contract

-- ---- outcomes that a contract allows: the number returned, the five numbers and every lent cell

-- of a list, under two limits, with so many cells lent
pub data ReadExportCall : List ℕ → ℕ → ℕ → ListRooms → ReadExport → Type 0 where
  reads : (κs : Lfts 6) (list : _) (configured : _) (pixels : _) (counts : _) (starts : _) (deltas : _) (coefficients : _) (answer : _) (r : _)
      (list' : _) (configured' : _) (pixels' : _) (counts' : _) (starts' : _) (deltas' : _) (coefficients' : _) (answer' : _)
      → read-contract.Post κs (list, (configured, (pixels, (counts, (starts, (deltas, (coefficients, (answer, tt)))))))) r
      (list', (configured', (pixels', (counts', (starts', (deltas', (coefficients', (answer', tt))))))))
      → ReadExportCall list.now configured pixels (reading.rooms_of counts.now starts.now deltas.now coefficients.now)
      (read_leaves r answer'.now counts'.now starts'.now deltas'.now coefficients'.now)

-- of a description, under two limits, with so many cells lent; the starts are f32, as every slice of f32 is that can be lent (the contract of `write_laws::lend`)
pub data WriteExportCall : List ℕ → List Float → List ℤ → List ℤ → ℤ → ℕ → ℕ → ℕ → WriteExport → Type 0 where
  writes : (κs : Lfts 6) (counts : _) (starts : Bor (List Float)) (deltas : _) (coefficients : _) (adjustment : _) (configured : _) (pixels : _) (list : _) (answer : _) (r : _)
      (counts' : _) (starts' : _) (deltas' : _) (coefficients' : _) (adjustment' : _) (configured' : _) (pixels' : _) (list' : _) (answer' : _)
      → Floats starts.now → write-contract.Post κs (counts, (starts, (deltas, (coefficients, (adjustment, (configured, (pixels, (list, (answer, tt))))))))) r
      (counts', (starts', (deltas', (coefficients', (adjustment', (configured', (pixels', (list', (answer', tt)))))))))
      → WriteExportCall counts.now starts.now deltas.now coefficients.now adjustment configured pixels (length list.now) (write_leaves r answer'.now list'.now)

-- of a description, for an image, with so many cells lent
pub data BuildExportCall : Description → Setting → building.BuildRooms → BuildExport → Type 0 where
  builds : (κs : Lfts 11) (counts : _) (starts : _) (deltas : _) (coefficients : _) (adjustment : _) (width : _) (height : _) (ytox : _) (ytob : _) (high : _) (level10 : _) (path : _) (walk : _) (segments : _) (owners : _) (row_starts : _) (entries : _) (answer : _) (r : _)
      (counts' : _) (starts' : _) (deltas' : _) (coefficients' : _) (adjustment' : _) (width' : _) (height' : _) (ytox' : _) (ytob' : _) (high' : _) (level10' : _) (path' : _) (walk' : _) (segments' : _) (owners' : _) (rowStarts' : _) (entries' : _) (answer' : _)
      → build-contract.Post κs (counts, (starts, (deltas, (coefficients, (adjustment, (width, (height, (ytox, (ytob, (high, (level10, (path, (walk, (segments, (owners, (row_starts, (entries, (answer, tt)))))))))))))))))) r
      (counts', (starts', (deltas', (coefficients', (adjustment', (width', (height', (ytox', (ytob', (high', (level10', (path', (walk', (segments', (owners', (rowStarts', (entries', (answer', tt))))))))))))))))))
      → BuildExportCall (description_of counts.now starts.now deltas.now coefficients.now) (setting_of adjustment width height ytox ytob high level10)
      (building.rooms_of path.now walk.now segments.now owners.now row_starts.now entries.now)
      (build_leaves r answer'.now path'.now walk'.now segments'.now owners'.now rowStarts'.now entries'.now)

-- of row y of a table for a desk, n pixels from column x0 on, with channels lent that begin there
pub data DrawExportCall : Table → Sight → ℕ → ℕ → ℕ → Channels → DrawExport → Type 0 where
  draws : (κs : Lfts 9) (segments : _) (owners : _) (segment_count : _) (entries : _) (entry_count : _) (row_starts : _) (height : _) (splines : _) (bits : _) (desk : _) (y : _) (x0 : _) (n : _) (r0 : _) (r1 : _) (r2 : _) (answer : _) (r : _)
      (segments' : _) (owners' : _) (segmentCount' : _) (entries' : _) (entryCount' : _) (rowStarts' : _) (height' : _) (splines' : _) (bits' : _) (desk' : _) (y' : _) (x0' : _) (n' : _) (r0' : _) (r1' : _) (r2' : _) (answer' : _)
      → draw-contract.Post κs (segments, (owners, (segment_count, (entries, (entry_count, (row_starts, (height, (splines, (bits, (desk, (y, (x0, (n, (r0, (r1, (r2, (answer, tt))))))))))))))))) r
      (segments', (owners', (segmentCount', (entries', (entryCount', (rowStarts', (height', (splines', (bits', (desk', (y', (x0', (n', (r0', (r1', (r2', (answer', tt)))))))))))))))))
      → DrawExportCall (table_of segments.now segment_count entries.now entry_count row_starts.now height) (sight_of owners.now splines bits.now desk)
      y x0 n (three r0.now r1.now r2.now) (draw_leaves r answer'.now (three r0'.now r1'.now r2'.now))

-- of row y of a table for a desk, for a width
pub data ReachExportCall : Table → Sight → ℕ → ℕ → ReachExport → Type 0 where
  reaches : (κs : Lfts 6) (segments : _) (owners : _) (segment_count : _) (entries : _) (entry_count : _) (row_starts : _) (height : _) (splines : _) (bits : _) (desk : _) (y : _) (width : _) (answer : _) (r : _)
      (segments' : _) (owners' : _) (segmentCount' : _) (entries' : _) (entryCount' : _) (rowStarts' : _) (height' : _) (splines' : _) (bits' : _) (desk' : _) (y' : _) (width' : _) (answer' : _)
      → reach-contract.Post κs (segments, (owners, (segment_count, (entries, (entry_count, (row_starts, (height, (splines, (bits, (desk, (y, (width, (answer, tt))))))))))))) r
      (segments', (owners', (segmentCount', (entries', (entryCount', (rowStarts', (height', (splines', (bits', (desk', (y', (width', (answer', tt)))))))))))))
      → ReachExportCall (table_of segments.now segment_count entries.now entry_count row_starts.now height) (sight_of owners.now splines bits.now desk) y width (reach_leaves r answer'.now)

-- of a number
pub data LnExportCall : Float → Float → Type 0 where
  logs : (κs : Lfts 0) (x : _) (r : _) (x' : _) → ln-contract.Post κs (x, tt) r (x', tt) → LnExportCall x r

-- ---- the exports tell what the calls answer and leave

-- x is an outcome of the call, told in C's terms
pub record Tells {A B : Type 0} (Call : A → Type 0) (told : A → B) (x : B) : Type 0 where
  pub outcome : A
  pub called : Call outcome
  pub is : x ≡ told outcome

-- whatever an export's contract allows is an outcome that its call's contract allows, the five numbers included
pub record ExportsTellTheCalls : Type 0 where
  pub read : (l : List ℕ) (configured pixels : ℕ) (rooms : ListRooms) (x : ReadExport) → ReadExportCall l configured pixels rooms x
      → Tells (ReadCall l configured pixels rooms) read_export x
  pub write : (ns : List ℕ) (ss : List Float) (ds cs : List ℤ) (a : ℤ) (configured pixels room : ℕ) (x : WriteExport)
      → WriteExportCall ns ss ds cs a configured pixels room x → Tells (WriteCall ns ss ds cs a configured pixels room) write_export x
  pub build : (d : Description) (i : Setting) (r : building.BuildRooms) (x : BuildExport) → BuildExportCall d i r x → Tells (BuildCall d i r) build_export x
  pub draw : (t : Table) (s : Sight) (y x0 n : ℕ) (a : Channels) (x : DrawExport) → DrawExportCall t s y x0 n a x → Tells (DrawCall t s y x0 n a) draw_export x
  pub reach : (t : Table) (s : Sight) (y W : ℕ) (x : ReachExport) → ReachExportCall t s y W x → Tells (ReachCall t s y W) reach_export x
  pub ln : (x r : Float) → LnExportCall x r → LnCall x r

-- any two outcomes that an export's contract allows are equal
pub record OneOutcomeExported : Type 0 where
  pub read : (l : List ℕ) (configured pixels : ℕ) (rooms : ListRooms) (x z : ReadExport)
      → ReadExportCall l configured pixels rooms x → ReadExportCall l configured pixels rooms z → x ≡ z
  pub write : (ns : List ℕ) (ss : List Float) (ds cs : List ℤ) (a : ℤ) (configured pixels room : ℕ) (x z : WriteExport)
      → WriteExportCall ns ss ds cs a configured pixels room x → WriteExportCall ns ss ds cs a configured pixels room z → x ≡ z
  pub build : (d : Description) (i : Setting) (r : building.BuildRooms) (x z : BuildExport) → BuildExportCall d i r x → BuildExportCall d i r z → x ≡ z
  pub draw : (t : Table) (s : Sight) (y x0 n : ℕ) (a : Channels) (x z : DrawExport) → DrawExportCall t s y x0 n a x → DrawExportCall t s y x0 n a z → x ≡ z
  pub reach : (t : Table) (s : Sight) (y W : ℕ) (x z : ReachExport) → ReachExportCall t s y W x → ReachExportCall t s y W z → x ≡ z
  pub ln : (x r q : Float) → LnExportCall x r → LnExportCall x q → r ≡ q
