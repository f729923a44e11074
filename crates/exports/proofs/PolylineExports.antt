-- The exports for line drawings tell the calls: a contract's equation gives back the answer, and with the lent cells it is an outcome that the call's own contract allows.
use mathlib.Core.Path.{◌≡◌, refl, sym, ap, ◌∙◌}
use mathlib.Core.List.{List}
use Prim.Native.Nat.{ℕ}
use lib.IntN.{ℤ}
use lib.Ieee.{Float}
use Rattle.dequantize.specs.Judge.{description_of}
use Rattle.write_judge.specs.Verdict.{Verdict}
use Rattle.write_judge.specs.Verdict.{Fine, Fault}
use Rattle.writer.specs.Write as writing
use Rattle.polyline.specs.declared.Spot.{Spot}
use Rattle.polyline.specs.Spots.{spots_of}
use Rattle.polyline.specs.Read.{PointsOutcome, points_verdict, read_points_of}
use Rattle.polyline.specs.Read as points
use Rattle.polyline.specs.Write.{spline_text, write_verdict, write_points_of}
use Rattle.aktyrbuz.specs.Exported.{WriteExport, write_export}
use Rattle.aktyrbuz.specs.Polylines.{PointsExport, points_export}
use Rattle.aktyrbuz.specs.PolylineCalls as calls
use Rattle.exports.specs.Exports.{Tells}
use Rattle.exports.specs.PolylineExports.{PointsReadExportCall, reads, PointsWriteExportCall, writes, PolylineExportsTellTheCalls, PolylineOneOutcomeExported}
use Rattle.exports.proofs.Exports.{WriteWhole, verdict_whole}
use Rattle.exports.proofs.Lending.{lent_description}

abbrev PointsWhole : PointsOutcome → Type 0
PointsWhole o = points.leaves o.answer o.start o.deltas ≡ o

decided_whole : (start deltas : ℕ) (ss : List Spot) (v : Verdict) → PointsWhole (points.outcome start deltas ss v)
decided_whole start deltas ss Fine = refl
decided_whole start deltas ss (Fault c p) = refl

points_read_whole : (text : List ℕ) (start deltas : ℕ) → PointsWhole (read_points_of start deltas text)
unfolding read_points_of
points_read_whole text start deltas = decided_whole start deltas (spots_of text) (points_verdict start deltas text)

points_write_whole : (ns : List ℕ) (ss : List Float) (ds cs : List ℤ) (k room : ℕ) → WriteWhole (write_points_of ns ss ds cs k room)
unfolding write_points_of
points_write_whole ns ss ds cs k room = verdict_whole room (spline_text (description_of ns ss ds cs) k) (write_verdict ns ss ds cs k room)

tells_read : (text : List ℕ) (start deltas : ℕ) (x : PointsExport) → PointsReadExportCall text start deltas x → Tells (calls.PointsReadCall text start deltas) points_export x
tells_read b s d x (reads κs text start deltas answer r text' start' deltas' answer' p) =
    let o = read_points_of s d b in
    let same : points.leaves o.answer start'.now deltas'.now ≡ o
    = rw (ap (λ (u : PointsExport). u.start) p, ap (λ (u : PointsExport). u.deltas) p) (points_read_whole b s d) in
    record {
      outcome = points.leaves o.answer start'.now deltas'.now;
      called = calls.reads κs.1 text start deltas o.answer text' start' deltas' same;
      is = p ∙ ap points_export (sym same);
    }

tells_write : (ns : List ℕ) (ss : List Float) (ds cs : List ℤ) (k room : ℕ) (x : WriteExport)
    → PointsWriteExportCall ns ss ds cs k room x → Tells (calls.PointsWriteCall ns ss ds cs k room) write_export x
tells_write ns ss ds cs k room x
    (writes κs counts starts deltas coefficients spline text answer r counts' starts' deltas' coefficients' spline' text' answer' p) =
    let o = write_points_of ns ss ds cs k room in
    let same : writing.leaves o.answer text'.now ≡ o = rw (ap (λ (u : WriteExport). u.list) p) (points_write_whole ns ss ds cs k room) in
    record {
      outcome = writing.leaves o.answer text'.now;
      called = calls.writes κs.1.1.1 (lent_description counts starts deltas coefficients) spline text o.answer (lent_description counts' starts' deltas' coefficients') spline' text' same;
      is = p ∙ ap write_export (sym same);
    }

pub polyline_exports_tell_the_calls : PolylineExportsTellTheCalls
polyline_exports_tell_the_calls = record { read = tells_read; write = tells_write }

read_equation : (text : List ℕ) (start deltas : ℕ) (x : PointsExport) → PointsReadExportCall text start deltas x → x ≡ points_export (read_points_of start deltas text)
read_equation text start deltas x (reads κs _ _ _ _ _ _ _ _ _ p) = p

write_equation : (ns : List ℕ) (ss : List Float) (ds cs : List ℤ) (k room : ℕ) (x : WriteExport) → PointsWriteExportCall ns ss ds cs k room x
    → x ≡ write_export (write_points_of ns ss ds cs k room)
write_equation ns ss ds cs k room x (writes κs _ _ _ _ _ _ _ _ _ _ _ _ _ _ _ p) = p

pub polyline_one_outcome_exported : PolylineOneOutcomeExported
polyline_one_outcome_exported = record {
  read = λ text start deltas x z a b. read_equation text start deltas x a ∙ sym (read_equation text start deltas z b);
  write = λ ns ss ds cs k room x z a b. write_equation ns ss ds cs k room x a ∙ sym (write_equation ns ss ds cs k room z b);
}

-- Assumes nothing.
