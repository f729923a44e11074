-- The exports for trace files tell the calls: a contract's equation gives back the answer, and with the lent cells it is an outcome that the call's own contract allows.
use mathlib.Core.Path.{◌≡◌, sym, ap, ◌∙◌}
use mathlib.Core.List.{List, [], ◌∷◌, ◌++◌, map}
use Prim.Native.Nat.{ℕ, ◌*◌}
use lib.Dec.{ltb}
use lib.ListN.{length}
use lib.IntN.{ℤ}
use lib.Ieee.{Float}
use Rattle.codes.specs.declared.Code.TheVariants.{Room}
use Rattle.shape.specs.Shape.{points_of}
use Rattle.list.specs.List.{ListRooms, described}
use Rattle.reader.specs.Read.{ReadOutcome}
use Rattle.reader.specs.Read as reading
use Rattle.writer.specs.Write.{check, first_fault, whole_of, WriteOutcome}
use Rattle.writer.specs.Write as writing
use Rattle.trace.specs.Trace.{version1, numbers_of, file_of}
use Rattle.trace.specs.Read.{read_trace, read_trace_of}
use Rattle.trace.specs.Write.{write_checks, write_trace_of}
use Rattle.aktyrbuz.specs.Exported.{ReadExport, read_export, WriteExport, write_export}
use Rattle.aktyrbuz.specs.TraceCalls as calls
use Rattle.exports.specs.Exports.{Tells}
use Rattle.exports.specs.TraceExports.{TraceReadExportCall, reads, TraceWriteExportCall, writes, TraceExportsTellTheCalls, TraceOneOutcomeExported}
use Rattle.exports.proofs.Exports.{ReadWhole, WriteWhole, read_whole, verdict_whole}
use Rattle.exports.proofs.Lending.{lent_description}

trace_read_whole : (rooms : ListRooms) (bytes : List ℕ) → ReadWhole (read_trace_of rooms bytes)
unfolding read_trace_of
trace_read_whole rooms bytes = read_whole rooms (read_trace rooms bytes)

trace_write_whole : (ns : List ℕ) (ss : List Float) (ds cs : List ℤ) (a : ℤ) (room : ℕ) → WriteWhole (write_trace_of ns ss ds cs a room)
unfolding write_trace_of
trace_write_whole ns ss ds cs a room =
    verdict_whole room (file_of version1 [] (described a (map whole_of ss) ns ds cs))
    (first_fault (write_checks 8 ns ss ds cs ++ check (ltb room (4 * numbers_of 8 (length ns) (points_of ns))) Room 0 ∷ []))

tells_read : (bytes : List ℕ) (rooms : ListRooms) (x : ReadExport) → TraceReadExportCall bytes rooms x → Tells (calls.TraceReadCall bytes rooms) read_export x
tells_read b rooms x (reads κs bytes counts starts deltas coefficients answer r bytes' counts' starts' deltas' coefficients' answer' lent p) =
    let o = read_trace_of rooms b in
    let same : reading.leaves o.answer counts'.now starts'.now deltas'.now coefficients'.now ≡ o
    = rw (ap (λ (u : ReadExport). u.counts) p, ap (λ (u : ReadExport). u.starts) p, ap (λ (u : ReadExport). u.deltas) p, ap (λ (u : ReadExport). u.coefficients) p)
    (trace_read_whole rooms b) in
    record {
      outcome = reading.leaves o.answer counts'.now starts'.now deltas'.now coefficients'.now;
      called = calls.reads κs.1 bytes counts starts deltas coefficients o.answer bytes' counts' starts' deltas' coefficients' lent same;
      is = p ∙ ap read_export (sym same);
    }

tells_write : (ns : List ℕ) (ss : List Float) (ds cs : List ℤ) (a : ℤ) (room : ℕ) (x : WriteExport)
    → TraceWriteExportCall ns ss ds cs a room x → Tells (calls.TraceWriteCall ns ss ds cs a room) write_export x
tells_write ns ss ds cs a room x
    (writes κs counts starts deltas coefficients adjustment bytes answer r counts' starts' deltas' coefficients' adjustment' bytes' answer' n f s m p) =
    let o = write_trace_of ns ss ds cs a room in
    let same : writing.leaves o.answer bytes'.now ≡ o = rw (ap (λ (u : WriteExport). u.list) p) (trace_write_whole ns ss ds cs a room) in
    record {
      outcome = writing.leaves o.answer bytes'.now;
      called = calls.writes κs.1.1.1 (lent_description counts starts deltas coefficients) adjustment bytes o.answer (lent_description counts' starts' deltas' coefficients') adjustment' bytes' n f s m same;
      is = p ∙ ap write_export (sym same);
    }

pub trace_exports_tell_the_calls : TraceExportsTellTheCalls
trace_exports_tell_the_calls = record { read = tells_read; write = tells_write }

read_equation : (bytes : List ℕ) (rooms : ListRooms) (x : ReadExport) → TraceReadExportCall bytes rooms x → x ≡ read_export (read_trace_of rooms bytes)
read_equation bytes rooms x (reads κs _ _ _ _ _ _ _ _ _ _ _ _ _ b p) = p

write_equation : (ns : List ℕ) (ss : List Float) (ds cs : List ℤ) (a : ℤ) (room : ℕ) (x : WriteExport) → TraceWriteExportCall ns ss ds cs a room x
    → x ≡ write_export (write_trace_of ns ss ds cs a room)
write_equation ns ss ds cs a room x (writes κs _ _ _ _ _ _ _ _ _ _ _ _ _ _ _ n f s m p) = p

pub trace_one_outcome_exported : TraceOneOutcomeExported
trace_one_outcome_exported = record {
  read = λ bytes rooms x z a b. read_equation bytes rooms x a ∙ sym (read_equation bytes rooms z b);
  write = λ ns ss ds cs n room x z a b. write_equation ns ss ds cs n room x a ∙ sym (write_equation ns ss ds cs n room z b);
}

-- Assumes nothing.
