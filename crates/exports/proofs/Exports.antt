-- The exports tell the calls: a contract's equation gives back the answer, and with the lent cells it is an outcome that the call's own contract allows.
use mathlib.Core.Path.{◌≡◌, refl, sym, ap, ◌∙◌}
use mathlib.Core.List.{List, [], ◌∷◌, ◌++◌}
use Prim.Native.Nat.{ℕ}
use lib.IntN.{ℤ}
use lib.Ieee.{Float}
use lib.Dec.{ltb}
use lib.ListN.{length}
use Rattle.codes.specs.declared.Code.TheVariants.{Room}
use Rattle.approximations.specs.Ln.{ln_of}
use Rattle.list.specs.List.{ListRooms, Got, got, stop, Described, described, limit_of, read_of}
use Rattle.reader.specs.Read.{ReadOutcome, outcome, read_outcome, rooms_of}
use Rattle.reader.specs.Read as reading
use Rattle.writer.specs.Write.{WriteOutcome, check, first_fault, content_checks, values_of, write_of}
use Rattle.writer.specs.Write as writing
use Rattle.write_judge.specs.Verdict.{Verdict}
use Rattle.write_judge.specs.Verdict.{Fine, Fault}
use Rattle.dequantize.specs.Answers.{Judged}
use Rattle.dequantize.specs.Answers as judged
use Rattle.dequantize.specs.Judge.{Description}
use Rattle.points.specs.Points.{eights}
use Rattle.painting.specs.Painting.{Painted, All, NoRoomAt}
use Rattle.rows.specs.Listed.{Listed}
use Rattle.rows.specs.Listed as listed
use Rattle.rows.specs.Rows as rows
use Rattle.table.specs.Table.{Setting, setting_of, BuildRooms, BuildOutcome, given_of, refused_with, after_rows, after_paint, after_judge, build_of}
use Rattle.verdict.specs.Verdict.{verdict_of}
use Rattle.table.proofs.InRooms.{painted}
use Rattle.table.specs.Table as building
use Rattle.desks.specs.Desks.{Sight}
use Rattle.draw.specs.Draw.{Table, table_of, Channels, three, DrawOutcome, draw_of, judge_draw}
use Rattle.draw.specs.Draw as drawing
use Rattle.checks.specs.Verdict.{Verdict as DrawVerdict}
use Rattle.checks.specs.Verdict as drawn
use Rattle.hull.specs.Reach.{ReachOutcome, reach_of}
use Rattle.hull.specs.Reach as reaching
use Rattle.aktyrbuz.specs.Exported.{ReadExport, read_export, WriteExport, write_export, BuildExport, build_export, DrawExport, draw_export, ReachExport, reach_export}
use Rattle.aktyrbuz.specs.Calls as calls
use Rattle.exports.specs.Exports.{ReadExportCall, reads, WriteExportCall, writes, BuildExportCall, builds, DrawExportCall, draws, ReachExportCall, reaches, LnExportCall, logs, Tells, ExportsTellTheCalls, OneOutcomeExported}
use Rattle.exports.proofs.Lending.{lent_description, lent_sight, lent_table, setting}

-- ---- an outcome is its answer, what that tells, and its cells

abbrev pub ReadWhole : ReadOutcome → Type 0
ReadWhole o = reading.leaves o.answer o.counts o.starts o.deltas o.coefficients ≡ o

pub read_whole : (rooms : ListRooms) (g : Got Described) → ReadWhole (outcome rooms g)
read_whole rooms (got (described a zs ns ds cs) l) = refl
read_whole rooms (stop c p) = refl

abbrev pub WriteWhole : WriteOutcome → Type 0
WriteWhole o = writing.leaves o.answer o.list ≡ o

pub verdict_whole : (room : ℕ) (values : List ℕ) (v : Verdict) → WriteWhole (writing.outcome room values v)
verdict_whole room values Fine = refl
verdict_whole room values (Fault c p) = refl

write_whole : (ns : List ℕ) (ss : List Float) (ds cs : List ℤ) (a : ℤ) (configured pixels room : ℕ) → WriteWhole (write_of ns ss ds cs a configured pixels room)
unfolding write_of
write_whole ns ss ds cs a configured pixels room =
    verdict_whole room (values_of ns ss ds cs a)
    (first_fault (content_checks ns ss ds cs (limit_of configured pixels) ++ check (ltb room (length (values_of ns ss ds cs a))) Room room ∷ []))

abbrev BuildWhole : BuildOutcome → Type 0
BuildWhole o = building.leaves o.answer o.path o.walk o.segments o.owners o.starts o.entries ≡ o

rows_whole : (r : BuildRooms) (estimate count : ℕ) (numbers : List Float) (owners : List ℕ) (o : rows.RowsOutcome) → BuildWhole (after_rows r estimate count numbers owners o)
unfolding refused_with
rows_whole r estimate count numbers owners o = go o.answer refl
  where
    go : (l : Listed) → o.answer ≡ l → BuildWhole (after_rows r estimate count numbers owners o)
    go listed.Room e = rw e
    go (listed.Entries n) e = rw e

paint_whole : (r : BuildRooms) (height estimate : ℕ) (p : Painted) → BuildWhole (after_paint r height estimate p)
unfolding refused_with
paint_whole r height estimate (NoRoomAt k) = refl
paint_whole r height estimate (All segs owners) =
    rows_whole r estimate (length segs) (eights segs) owners (rows.listed_rows (rows.in_row (eights segs)) (length segs) height r.starts r.entries)

judge_whole : (r : BuildRooms) (height : ℕ) (j : Judged) (p : Painted) → BuildWhole (after_judge r height j p)
unfolding refused_with
judge_whole r height (judged.Refused c k) p = refl
judge_whole r height (judged.Fine estimate) p = paint_whole r height estimate p

build_whole : (d : Description) (i : Setting) (r : BuildRooms) → BuildWhole (build_of d i r)
unfolding build_of
build_whole d i r = judge_whole r i.height (verdict_of d (given_of i) i.width i.height r.starts) (painted d i r)

abbrev DrawWhole : DrawOutcome → Type 0
DrawWhole o = drawing.leaves o.answer o.channels ≡ o

drawn_whole : (v : DrawVerdict) (t : Table) (s : Sight) (y x0 n : ℕ) (a : Channels) → DrawWhole (drawing.outcome v t s y x0 n a)
drawn_whole drawn.Fine t s y x0 n a = refl
drawn_whole (drawn.Fault c) t s y x0 n a = refl

draw_whole : (t : Table) (s : Sight) (y x0 n : ℕ) (a : Channels) → DrawWhole (draw_of t s y x0 n a)
unfolding draw_of
draw_whole t s y x0 n a = drawn_whole (judge_draw t s y x0 n (length a.r0) (length a.r1) (length a.r2)) t s y x0 n a

reach_whole : (t : Table) (s : Sight) (y W : ℕ) → reaching.tells (reach_of t s y W).answer ≡ reach_of t s y W
unfolding reach_of
reach_whole t s y W = refl

-- ---- the calls behind the exports

tells_read : (l : List ℕ) (configured pixels : ℕ) (rooms : ListRooms) (x : ReadExport) → ReadExportCall l configured pixels rooms x → Tells (calls.ReadCall l configured pixels rooms) read_export x
tells_read l configured pixels rooms x (reads κs list _ _ counts starts deltas coefficients answer r list' configured' pixels' counts' starts' deltas' coefficients' answer' p) =
    let o = read_outcome configured pixels rooms l in
    let same : reading.leaves o.answer counts'.now starts'.now deltas'.now coefficients'.now ≡ o
    = rw (ap (λ (u : ReadExport). u.counts) p, ap (λ (u : ReadExport). u.starts) p, ap (λ (u : ReadExport). u.deltas) p, ap (λ (u : ReadExport). u.coefficients) p)
    (read_whole rooms (read_of (limit_of configured pixels) rooms l)) in
    record {
      outcome = reading.leaves o.answer counts'.now starts'.now deltas'.now coefficients'.now;
      called = calls.reads κs.1 list configured pixels counts starts deltas coefficients o.answer list' configured' pixels' counts' starts' deltas' coefficients' same;
      is = p ∙ ap read_export (sym same);
    }

tells_write : (ns : List ℕ) (ss : List Float) (ds cs : List ℤ) (a : ℤ) (configured pixels room : ℕ) (x : WriteExport)
    → WriteExportCall ns ss ds cs a configured pixels room x → Tells (calls.WriteCall ns ss ds cs a configured pixels room) write_export x
tells_write ns ss ds cs a configured pixels room x
    (writes κs counts starts deltas coefficients _ _ _ list answer r counts' starts' deltas' coefficients' adjustment' configured' pixels' list' answer' f p) =
    let o = write_of ns ss ds cs a configured pixels room in
    let same : writing.leaves o.answer list'.now ≡ o
    = rw (ap (λ (u : WriteExport). u.list) p) (write_whole ns ss ds cs a configured pixels room) in
    record {
      outcome = writing.leaves o.answer list'.now;
      called = calls.writes κs.1.1.1 (lent_description counts starts deltas coefficients) a configured pixels list o.answer (lent_description counts' starts' deltas' coefficients') adjustment' configured' pixels' list' f same;
      is = p ∙ ap write_export (sym same);
    }

tells_draw : (t : Table) (s : Sight) (y x0 n : ℕ) (a : Channels) (x : DrawExport) → DrawExportCall t s y x0 n a x → Tells (calls.DrawCall t s y x0 n a) draw_export x
tells_draw t s y x0 n a x
    (draws κs segments owners segment_count entries entry_count row_starts height splines bits desk _ _ _ r0 r1 r2 answer r
    segments' owners' segmentCount' entries' entryCount' rowStarts' height' splines' bits' desk' y' x0' n' r0' r1' r2' answer' p) =
    let o = draw_of t s y x0 n a in
    let same : drawing.leaves o.answer (three r0'.now r1'.now r2'.now) ≡ o
    = ap (λ (c : Channels). drawing.leaves o.answer c) (ap (λ (u : DrawExport). u.channels) p) ∙ draw_whole t s y x0 n a in
    record {
      outcome = drawing.leaves o.answer (three r0'.now r1'.now r2'.now);
      called = calls.draws κs.1.1 (lent_table segments segment_count entries entry_count row_starts height) (lent_sight owners splines bits desk) y x0 n r0 r1 r2 o.answer
          (lent_table segments' segmentCount' entries' entryCount' rowStarts' height') (lent_sight owners' splines' bits' desk') y' x0' n' r0' r1' r2' same;
      is = p ∙ ap draw_export (sym same);
    }

tells_reach : (t : Table) (s : Sight) (y W : ℕ) (x : ReachExport) → ReachExportCall t s y W x → Tells (calls.ReachCall t s y W) reach_export x
tells_reach t s y W x
    (reaches κs segments owners segment_count entries entry_count row_starts height splines bits desk _ _ answer r
    segments' owners' segmentCount' entries' entryCount' rowStarts' height' splines' bits' desk' y' width' answer' p) =
    let same = reach_whole t s y W in
    record {
      outcome = reaching.tells (reach_of t s y W).answer;
      called = calls.reaches κs.1.1 (lent_table segments segment_count entries entry_count row_starts height) (lent_sight owners splines bits desk) y W (reach_of t s y W).answer
          (lent_table segments' segmentCount' entries' entryCount' rowStarts' height') (lent_sight owners' splines' bits' desk') y' width' same;
      is = p ∙ ap reach_export (sym same);
    }

tells_build : (d : Description) (i : Setting) (r : BuildRooms) (x : BuildExport) → BuildExportCall d i r x → Tells (calls.BuildCall d i r) build_export x
tells_build d i rooms x
    (builds κs counts starts deltas coefficients adjustment width height ytox ytob high level10 path walk segments owners row_starts entries answer r
    counts' starts' deltas' coefficients' adjustment' width' height' ytox' ytob' high' level10' path' walk' segments' owners' rowStarts' entries' answer' p) =
    let o = build_of d i rooms in
    let same : building.leaves o.answer path'.now walk'.now segments'.now owners'.now rowStarts'.now entries'.now ≡ o
    = rw (ap (λ (u : BuildExport). u.path) p, ap (λ (u : BuildExport). u.walk) p, ap (λ (u : BuildExport). u.segments) p, ap (λ (u : BuildExport). u.owners) p, ap (λ (u : BuildExport). u.starts) p, ap (λ (u : BuildExport). u.entries) p)
    (build_whole d i rooms) in
    record {
      outcome = building.leaves o.answer path'.now walk'.now segments'.now owners'.now rowStarts'.now entries'.now;
      called = calls.builds κs.1.1.1 (lent_description counts starts deltas coefficients) (setting adjustment width height ytox ytob high level10) path walk segments owners row_starts entries o.answer
          (lent_description counts' starts' deltas' coefficients') (setting adjustment' width' height' ytox' ytob' high' level10') path' walk' segments' owners' rowStarts' entries' same;
      is = p ∙ ap build_export (sym same);
    }

pub exports_tell_the_calls : ExportsTellTheCalls
exports_tell_the_calls = record {
  read = tells_read;
  write = tells_write;
  build = tells_build;
  draw = tells_draw;
  reach = tells_reach;
  ln = λ x r c. tells_ln x r c;
}
  where
    tells_ln : (x r : Float) → LnExportCall x r → calls.LnCall x r
    tells_ln x r (logs κs _ _ x' p) = calls.logs κs x r x' p

-- ---- the contracts are equations

read_equation : (l : List ℕ) (configured pixels : ℕ) (rooms : ListRooms) (x : ReadExport) → ReadExportCall l configured pixels rooms x → x ≡ read_export (read_outcome configured pixels rooms l)
read_equation l configured pixels rooms x (reads κs _ _ _ _ _ _ _ _ _ _ _ _ _ _ _ _ _ p) = p

write_equation : (ns : List ℕ) (ss : List Float) (ds cs : List ℤ) (a : ℤ) (configured pixels room : ℕ) (x : WriteExport) → WriteExportCall ns ss ds cs a configured pixels room x
    → x ≡ write_export (write_of ns ss ds cs a configured pixels room)
write_equation ns ss ds cs a configured pixels room x (writes κs _ _ _ _ _ _ _ _ _ _ _ _ _ _ _ _ _ _ _ f p) = p

build_equation : (d : Description) (i : Setting) (r : BuildRooms) (x : BuildExport) → BuildExportCall d i r x → x ≡ build_export (build_of d i r)
build_equation d i r x (builds κs _ _ _ _ _ _ _ _ _ _ _ _ _ _ _ _ _ _ _ _ _ _ _ _ _ _ _ _ _ _ _ _ _ _ _ _ _ p) = p

draw_equation : (t : Table) (s : Sight) (y x0 n : ℕ) (a : Channels) (x : DrawExport) → DrawExportCall t s y x0 n a x → x ≡ draw_export (draw_of t s y x0 n a)
draw_equation t s y x0 n a x (draws κs _ _ _ _ _ _ _ _ _ _ _ _ _ _ _ _ _ _ _ _ _ _ _ _ _ _ _ _ _ _ _ _ _ _ _ p) = p

reach_equation : (t : Table) (s : Sight) (y W : ℕ) (x : ReachExport) → ReachExportCall t s y W x → x ≡ reach_export (reach_of t s y W)
reach_equation t s y W x (reaches κs _ _ _ _ _ _ _ _ _ _ _ _ _ _ _ _ _ _ _ _ _ _ _ _ _ _ _ p) = p

ln_equation : (x r : Float) → LnExportCall x r → r ≡ ln_of x
ln_equation x r (logs κs _ _ _ p) = p

pub one_outcome_exported : OneOutcomeExported
one_outcome_exported = record {
  read = λ l configured pixels rooms x z a b. read_equation l configured pixels rooms x a ∙ sym (read_equation l configured pixels rooms z b);
  write = λ ns ss ds cs n configured pixels room x z a b.
      write_equation ns ss ds cs n configured pixels room x a ∙ sym (write_equation ns ss ds cs n configured pixels room z b);
  build = λ d i r x z a b. build_equation d i r x a ∙ sym (build_equation d i r z b);
  draw = λ t s y x0 n c x z a b. draw_equation t s y x0 n c x a ∙ sym (draw_equation t s y x0 n c z b);
  reach = λ t s y W x z a b. reach_equation t s y W x a ∙ sym (reach_equation t s y W z b);
  ln = λ x r q a b. ln_equation x r a ∙ sym (ln_equation x q b);
}

-- Assumes nothing.
