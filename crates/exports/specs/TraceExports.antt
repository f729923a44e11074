-- The two exports for trace files by their contracts, as in Exports.antt: which outcomes a contract allows, that each is an outcome of its call told in C's terms, and that any two are equal. Definitions only.
use Rattle.std.specs.Prelude.{◌≡◌, List, ℕ, ◌^◌, ◌<◌, length, ℤ, Float}
use Rattle.std.specs.Int.Signed.{mag}
use contract.Lifetimes.{Lfts}
use denote.Bor.{Bor}
use Rattle.list.specs.List.{ListRooms}
use Rattle.reader.specs.Read as reading
use Rattle.write_laws.specs.Floats.{Floats}
use Rattle.little.specs.Little.{Bytes, Numbers, Signeds}
use Rattle.aktyrbuz.specs.Exported.{ReadExport, read_leaves, read_export, WriteExport, write_leaves, write_export}
use Rattle.aktyrbuz.specs.TraceCalls.{TraceReadCall, TraceWriteCall}
use Rattle.aktyrbuz.proofs.trace_files.aktyrbuz_trace_read.Reads as read-contract
use Rattle.aktyrbuz.proofs.trace_files.aktyrbuz_trace_write.Reads as write-contract
use Rattle.exports.specs.Exports.{Tells}

-- of a file, with so many cells lent
pub data TraceReadExportCall : List ℕ → ListRooms → ReadExport → Type 0 where
  reads : (κs : Lfts 6) (bytes : Bor (List ℕ)) (counts : _) (starts : _) (deltas : _) (coefficients : _) (answer : _) (r : _)
      (bytes' : _) (counts' : _) (starts' : _) (deltas' : _) (coefficients' : _) (answer' : _)
      → Bytes bytes.now → read-contract.Post κs (bytes, (counts, (starts, (deltas, (coefficients, (answer, tt)))))) r
      (bytes', (counts', (starts', (deltas', (coefficients', (answer', tt))))))
      → TraceReadExportCall bytes.now (reading.rooms_of counts.now starts.now deltas.now coefficients.now)
      (read_leaves r answer'.now counts'.now starts'.now deltas'.now coefficients'.now)

-- of a description, with so many bytes lent
pub data TraceWriteExportCall : List ℕ → List Float → List ℤ → List ℤ → ℤ → ℕ → WriteExport → Type 0 where
  writes : (κs : Lfts 6) (counts : Bor (List ℕ)) (starts : Bor (List Float)) (deltas : _) (coefficients : Bor (List ℤ)) (adjustment : _) (bytes : _) (answer : _) (r : _)
      (counts' : _) (starts' : _) (deltas' : _) (coefficients' : _) (adjustment' : _) (bytes' : _) (answer' : _)
      → Numbers counts.now → Floats starts.now → Signeds coefficients.now → mag adjustment < 2 ^ 31
      → write-contract.Post κs (counts, (starts, (deltas, (coefficients, (adjustment, (bytes, (answer, tt))))))) r
      (counts', (starts', (deltas', (coefficients', (adjustment', (bytes', (answer', tt)))))))
      → TraceWriteExportCall counts.now starts.now deltas.now coefficients.now adjustment (length bytes.now) (write_leaves r answer'.now bytes'.now)

-- whatever an export's contract allows is an outcome that its call's contract allows, the five numbers included
pub record TraceExportsTellTheCalls : Type 0 where
  pub read : (bytes : List ℕ) (rooms : ListRooms) (x : ReadExport) → TraceReadExportCall bytes rooms x → Tells (TraceReadCall bytes rooms) read_export x
  pub write : (ns : List ℕ) (ss : List Float) (ds cs : List ℤ) (a : ℤ) (room : ℕ) (x : WriteExport)
      → TraceWriteExportCall ns ss ds cs a room x → Tells (TraceWriteCall ns ss ds cs a room) write_export x

-- any two outcomes that an export's contract allows are equal
pub record TraceOneOutcomeExported : Type 0 where
  pub read : (bytes : List ℕ) (rooms : ListRooms) (x z : ReadExport) → TraceReadExportCall bytes rooms x → TraceReadExportCall bytes rooms z → x ≡ z
  pub write : (ns : List ℕ) (ss : List Float) (ds cs : List ℤ) (a : ℤ) (room : ℕ) (x z : WriteExport)
      → TraceWriteExportCall ns ss ds cs a room x → TraceWriteExportCall ns ss ds cs a room z → x ≡ z
