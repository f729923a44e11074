-- The exports for trace files of either version tell the calls: a contract's equation gives back the answer, and with the lent cells it is an outcome that the call's own contract allows.
use mathlib.Core.Path.{◌≡◌, refl, sym, ap, ◌∙◌}
use mathlib.Core.List.{List, [], ◌∷◌, ◌++◌, map}
use Prim.Native.Nat.{ℕ, ◌*◌}
use lib.Dec.{ltb}
use lib.ListN.{length}
use lib.IntN.{ℤ}
use lib.Ieee.{Float}
use Rattle.std.specs.Prelude.{Ok, Err}
use Rattle.codes.specs.declared.Code.TheVariants.{Room}
use Rattle.shape.specs.Shape.{points_of}
use Rattle.list.specs.List.{ListRooms, Got, got, stop, described}
use Rattle.reader.specs.Read.{outcome}
use Rattle.writer.specs.Write.{check, first_fault, whole_of, WriteOutcome}
use Rattle.writer.specs.Write as writing
use Rattle.little.specs.Little.{numbers_in}
use Rattle.trace.specs.Trace.{numbers_of, file_of}
use Rattle.read_list.specs.Answer.{ReadAnswer}
use Rattle.trace2.specs.Editions.{layout_of, more_of, header_long, edition_in}
use Rattle.trace2.specs.declared.FileRead.{FileRead}
use Rattle.trace2.specs.Read.{FileAnswer, read_file, FileOutcome, file_leaves, with_edition, read_file_of}
use Rattle.trace2.specs.Write.{write_checks2, write_file_of}
use Rattle.aktyrbuz.specs.Exported.{ReadExport, WriteExport, write_export}
use Rattle.aktyrbuz.specs.Trace2Exported.{file_export}
use Rattle.aktyrbuz.specs.Trace2Calls as calls
use Rattle.exports.specs.Exports.{Tells}
use Rattle.exports.specs.Trace2Exports.{FileReadExportCall, reads, FileWriteExportCall, writes, FileExportsTellTheCalls, FileOneOutcomeExported}
use Rattle.exports.proofs.Exports.{WriteWhole, verdict_whole}
use Rattle.exports.proofs.Lending.{lent_description}

-- the answer that an outcome was told from
answered : ReadAnswer → ℕ → FileAnswer
answered (Ok r) e = Ok (record { read = r; edition = e })
answered (Err r) e = Err r

abbrev FileWhole : FileOutcome → Type 0
FileWhole o = file_leaves (answered o.read.answer o.edition) o.read.counts o.read.starts o.read.deltas o.read.coefficients ≡ o

file_whole : (e : ℕ) (rooms : ListRooms) (g : Got _) → FileWhole (with_edition e (outcome rooms g))
unfolding answered
file_whole e rooms (got (described a zs ns ds cs) l) = refl
file_whole e rooms (stop c p) = refl

read_file_whole : (rooms : ListRooms) (bytes : List ℕ) → FileWhole (read_file_of rooms bytes)
unfolding read_file_of
read_file_whole rooms bytes = file_whole (edition_in (numbers_in bytes)) rooms (read_file rooms bytes)

write_file_whole : (ns : List ℕ) (ss : List Float) (ds cs : List ℤ) (a : ℤ) (v e room : ℕ) → WriteWhole (write_file_of ns ss ds cs a v e room)
unfolding write_file_of
write_file_whole ns ss ds cs a v e room =
    verdict_whole room (file_of (layout_of v) (more_of v e) (described a (map whole_of ss) ns ds cs))
    (first_fault (write_checks2 v e ns ss ds cs ++ check (ltb room (4 * numbers_of (header_long v) (length ns) (points_of ns))) Room 0 ∷ []))

tells_read : (bytes : List ℕ) (rooms : ListRooms) (x : ReadExport) → FileReadExportCall bytes rooms x → Tells (calls.FileReadCall bytes rooms) file_export x
tells_read b rooms x (reads κs bytes counts starts deltas coefficients answer r bytes' counts' starts' deltas' coefficients' answer' lent p) =
    let o = read_file_of rooms b in
    let k = answered o.read.answer o.edition in
    let same : file_leaves k counts'.now starts'.now deltas'.now coefficients'.now ≡ o
    = rw (ap (λ (u : ReadExport). u.counts) p, ap (λ (u : ReadExport). u.starts) p, ap (λ (u : ReadExport). u.deltas) p, ap (λ (u : ReadExport). u.coefficients) p)
    (read_file_whole rooms b) in
    record {
      outcome = file_leaves k counts'.now starts'.now deltas'.now coefficients'.now;
      called = calls.reads κs.1 bytes counts starts deltas coefficients k bytes' counts' starts' deltas' coefficients' lent same;
      is = p ∙ ap file_export (sym same);
    }

tells_write : (ns : List ℕ) (ss : List Float) (ds cs : List ℤ) (a : ℤ) (v e room : ℕ) (x : WriteExport)
    → FileWriteExportCall ns ss ds cs a v e room x → Tells (calls.FileWriteCall ns ss ds cs a v e room) write_export x
tells_write ns ss ds cs a v e room x
    (writes κs counts starts deltas coefficients adjustment version edition bytes answer r counts' starts' deltas' coefficients' adjustment' version' edition' bytes' answer' n f s m p) =
    let o = write_file_of ns ss ds cs a v e room in
    let same : writing.leaves o.answer bytes'.now ≡ o = rw (ap (λ (u : WriteExport). u.list) p) (write_file_whole ns ss ds cs a v e room) in
    record {
      outcome = writing.leaves o.answer bytes'.now;
      called = calls.writes κs.1.1.1 (lent_description counts starts deltas coefficients) adjustment version edition bytes o.answer (lent_description counts' starts' deltas' coefficients') adjustment' version' edition' bytes' n f s m same;
      is = p ∙ ap write_export (sym same);
    }

pub file_exports_tell_the_calls : FileExportsTellTheCalls
file_exports_tell_the_calls = record { read = tells_read; write = tells_write }

read_equation : (bytes : List ℕ) (rooms : ListRooms) (x : ReadExport) → FileReadExportCall bytes rooms x → x ≡ file_export (read_file_of rooms bytes)
read_equation bytes rooms x (reads κs _ _ _ _ _ _ _ _ _ _ _ _ _ b p) = p

write_equation : (ns : List ℕ) (ss : List Float) (ds cs : List ℤ) (a : ℤ) (v e room : ℕ) (x : WriteExport) → FileWriteExportCall ns ss ds cs a v e room x
    → x ≡ write_export (write_file_of ns ss ds cs a v e room)
write_equation ns ss ds cs a v e room x (writes κs _ _ _ _ _ _ _ _ _ _ _ _ _ _ _ _ _ _ _ n f s m p) = p

pub file_one_outcome_exported : FileOneOutcomeExported
file_one_outcome_exported = record {
  read = λ bytes rooms x z a b. read_equation bytes rooms x a ∙ sym (read_equation bytes rooms z b);
  write = λ ns ss ds cs n v e room x z a b. write_equation ns ss ds cs n v e room x a ∙ sym (write_equation ns ss ds cs n v e room z b);
}

-- Assumes nothing.
