-- The two exports for trace files of either version by their contracts, as in Exports.antt: which outcomes a contract allows, that each is an outcome of its call told in C's terms, and that any two are equal. Definitions only.
use Rattle.std.specs.Prelude.{◌≡◌, List, ℕ, ◌^◌, ◌<◌, length, ℤ, Float}
use Rattle.std.specs.Int.Signed.{mag}
use contract.Lifetimes.{Lfts}
use denote.Bor.{Bor}
use Rattle.list.specs.List.{ListRooms}
use Rattle.reader.specs.Read as reading
use Rattle.write_laws.specs.Floats.{Floats}
use Rattle.little.specs.Little.{Bytes, Numbers, Signeds}
use Rattle.aktyrbuz.specs.Exported.{ReadExport, read_leaves, WriteExport, write_leaves, write_export}
use Rattle.aktyrbuz.specs.Trace2Exported.{file_export}
use Rattle.aktyrbuz.specs.Trace2Calls.{FileReadCall, FileWriteCall}
use Rattle.aktyrbuz.proofs.trace_files2.aktyrbuz_trace_read2.Reads as read-contract
use Rattle.aktyrbuz.proofs.trace_files2.aktyrbuz_trace_write2.Reads as write-contract
use Rattle.exports.specs.Exports.{Tells}

-- of a file, with so many cells lent
pub data FileReadExportCall : List ℕ → ListRooms → ReadExport → Type 0 where
  reads : (κs : Lfts 6) (bytes : Bor (List ℕ)) (counts : _) (starts : _) (deltas : _) (coefficients : _) (answer : _) (r : _)
      (bytes' : _) (counts' : _) (starts' : _) (deltas' : _) (coefficients' : _) (answer' : _)
      → Bytes bytes.now → read-contract.Post κs (bytes, (counts, (starts, (deltas, (coefficients, (answer, tt)))))) r
      (bytes', (counts', (starts', (deltas', (coefficients', (answer', tt))))))
      → FileReadExportCall bytes.now (reading.rooms_of counts.now starts.now deltas.now coefficients.now)
      (read_leaves r answer'.now counts'.now starts'.now deltas'.now coefficients'.now)

-- of a description, a version and an edition, with so many bytes lent
pub data FileWriteExportCall : List ℕ → List Float → List ℤ → List ℤ → ℤ → ℕ → ℕ → ℕ → WriteExport → Type 0 where
  writes : (κs : Lfts 6) (counts : Bor (List ℕ)) (starts : Bor (List Float)) (deltas : _) (coefficients : Bor (List ℤ)) (adjustment : _) (version : _) (edition : _) (bytes : _) (answer : _) (r : _)
      (counts' : _) (starts' : _) (deltas' : _) (coefficients' : _) (adjustment' : _) (version' : _) (edition' : _) (bytes' : _) (answer' : _)
      → Numbers counts.now → Floats starts.now → Signeds coefficients.now → mag adjustment < 2 ^ 31
      → write-contract.Post κs (counts, (starts, (deltas, (coefficients, (adjustment, (version, (edition, (bytes, (answer, tt))))))))) r
      (counts', (starts', (deltas', (coefficients', (adjustment', (version', (edition', (bytes', (answer', tt)))))))))
      → FileWriteExportCall counts.now starts.now deltas.now coefficients.now adjustment version edition (length bytes.now) (write_leaves r answer'.now bytes'.now)

-- whatever an export's contract allows is an outcome that its call's contract allows, the five numbers included
pub record FileExportsTellTheCalls : Type 0 where
  pub read : (bytes : List ℕ) (rooms : ListRooms) (x : ReadExport) → FileReadExportCall bytes rooms x → Tells (FileReadCall bytes rooms) file_export x
  pub write : (ns : List ℕ) (ss : List Float) (ds cs : List ℤ) (a : ℤ) (v e room : ℕ) (x : WriteExport)
      → FileWriteExportCall ns ss ds cs a v e room x → Tells (FileWriteCall ns ss ds cs a v e room) write_export x

-- any two outcomes that an export's contract allows are equal
pub record FileOneOutcomeExported : Type 0 where
  pub read : (bytes : List ℕ) (rooms : ListRooms) (x z : ReadExport) → FileReadExportCall bytes rooms x → FileReadExportCall bytes rooms z → x ≡ z
  pub write : (ns : List ℕ) (ss : List Float) (ds cs : List ℤ) (a : ℤ) (v e room : ℕ) (x z : WriteExport)
      → FileWriteExportCall ns ss ds cs a v e room x → FileWriteExportCall ns ss ds cs a v e room z → x ≡ z
