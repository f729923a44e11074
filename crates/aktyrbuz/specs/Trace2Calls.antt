-- The two calls for trace files of either version by their contracts: which outcomes a contract allows. Definitions only.
-- `Post` is a contract as it was proved, as in Calls.antt.
use Rattle.std.specs.Prelude.{List, ℕ, ◌^◌, ◌<◌, length, ℤ, Float}
use Rattle.std.specs.Int.Signed.{mag}
use contract.Lifetimes.{Lfts}
use denote.Bor.{Bor}
use Rattle.shape.specs.declared.Description.{Description as Lent}
use Rattle.list.specs.List.{ListRooms}
use Rattle.reader.specs.Read as reading
use Rattle.writer.specs.Write as writing
use Rattle.write_laws.specs.Floats.{Floats}
use Rattle.little.specs.Little.{Bytes, Numbers, Signeds}
use Rattle.trace2.specs.Read.{FileOutcome, file_leaves}
use Rattle.trace2_read.proofs.trace_read2.Reads as trace-read2
use Rattle.trace2_write.proofs.trace_write2.Reads as trace-write2

-- of a file, with so many cells lent; the file is bytes, as every slice of u8 is that can be lent (the contract of `trace_laws::lend_bytes`)
pub data FileReadCall : List ℕ → ListRooms → FileOutcome → Type 0 where
  reads : (κs : Lfts 5) (bytes : Bor (List ℕ)) (counts : _) (starts : _) (deltas : _) (coefficients : _) (r : _)
      (bytes' : _) (counts' : _) (starts' : _) (deltas' : _) (coefficients' : _)
      → Bytes bytes.now → trace-read2.Post κs (bytes, (counts, (starts, (deltas, (coefficients, tt))))) r
      (bytes', (counts', (starts', (deltas', (coefficients', tt)))))
      → FileReadCall bytes.now (reading.rooms_of counts.now starts.now deltas.now coefficients.now)
      (file_leaves r counts'.now starts'.now deltas'.now coefficients'.now)

-- of a description, a version and an edition, with so many bytes lent; its numbers are of their types, as all are that can be lent
-- (the contracts of `lend_numbers`, `lend_signed` and `take_signed` of `trace_laws`, and of `write_laws::lend`)
pub data FileWriteCall : List ℕ → List Float → List ℤ → List ℤ → ℤ → ℕ → ℕ → ℕ → writing.WriteOutcome → Type 0 where
  writes : (κs : Lfts 3) (description : Bor Lent) (adjustment : _) (version : _) (edition : _) (bytes : _) (r : _)
      (description' : _) (adjustment' : _) (version' : _) (edition' : _) (bytes' : _)
      → Numbers description.now.counts.now → Floats description.now.starts.now → Signeds description.now.coefficients.now → mag adjustment < 2 ^ 31 → trace-write2.Post κs (description, (adjustment, (version, (edition, (bytes, tt))))) r
      (description', (adjustment', (version', (edition', (bytes', tt)))))
      → FileWriteCall description.now.counts.now description.now.starts.now description.now.deltas.now description.now.coefficients.now adjustment version edition (length bytes.now) (writing.leaves r bytes'.now)
