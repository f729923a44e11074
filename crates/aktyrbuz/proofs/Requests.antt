-- The later requests hold.
use mathlib.Core.Path.{◌≡◌, sym, ap, ◌∙◌, refl, subst}
use mathlib.Core.Logic.{⊎_elim, inl, inr, ◌↔◌}
use mathlib.Core.List.{List, []}
use Prim.Native.Nat.{ℕ, ◌≤◌, ◌<◌, ◌+◌, suc, ◌-◌, ◌^◌, ◌*◌}
use native.Mathlib.Nat.{zero-add, not-le_of_lt}
use native.Mathlib.Omega.{arith}
use lib.ListN.{length, get_or, take, get_or-append}
use Rattle.codes.specs.Refusal.{refused}
use Rattle.buffers.specs.Padded.{padded}
use Rattle.dequantize.specs.Judge.{Description}
use Rattle.segments.specs.declared.Segment.{Segment}
use Rattle.segments.specs.declared.Range.{Range}
use Rattle.segments.specs.Segment.{segment_at}
use Rattle.segments.specs.Ranges.{has_row, has_column, row_end, column_end}
use Rattle.rows.specs.Rows.{in_row}
use Rattle.shade.proofs.Edits.{lt_or_ge}
use Rattle.table.specs.Table.{Setting, BuildRooms, BuildOutcome, given_of, zeros, build_of}
use Rattle.desks.specs.Desks.{Sight, bit_of, hidden_in}
use Rattle.desks.specs.Agree.{Agree}
use Rattle.desks.specs.Hide.{HideOutcome, HideRefusal, hide_of}
use Rattle.desks.specs.HideAnswer.{HideAnswer}
use Rattle.desks.specs.HideAnswer as HideAnswer
use Rattle.desks.proofs.Shown.{nothing_hidden}
use Rattle.desks.proofs.Hiding.{Way, no_desk, no_byte, one_bit, way, hide_refused, hide_done, hide_place, hide_refused_exactly, hide_length, hide_sets, hide_keeps, hides_length, hides_keep}
use Rattle.checks.specs.Tables.{Table, row_of, shown_of}
use Rattle.checks.specs.Verdict.{Verdict}
use Rattle.checks.specs.Verdict as Verdict
use Rattle.checks.specs.Verdict.{Fine, Fault}
use Rattle.checks.proofs.Entries.{and_left, and_right}
use Rattle.checks.proofs.Refusals.{counts_fit_for, row_fine_for}
use Rattle.draw.specs.Draw.{Channels, DrawOutcome, updates, judge_draw, outcome, draw_of}
use Rattle.draw.proofs.Alike.{whole_row}
use Rattle.draw.specs.Keeps.{Updates}
use Rattle.draw.specs.Parts.{Whole}
use Rattle.draw.specs.DrawAnswer.{DrawAnswer}
use Rattle.draw.specs.DrawAnswer as DrawAnswer
use Rattle.draw.proofs.Keeps.{whole_keeps, updated_counts}
use Rattle.hull.specs.Reach.{touched, ReachOutcome}
use Rattle.hull.proofs.Alike.{whole_reach}
use Rattle.hull.proofs.Hulls.{Least, one_less, Passing, touched_by, touched_if}
use Rattle.hull.proofs.Reaches.{PassedReach, reached}
use Rattle.picture.specs.Picture.{Lists, Found, RowPicture, row_pairs, image_pairs, built}
use Rattle.picture.specs.Sights.{hides, KeptSight}
use Rattle.picture.proofs.Sights.{none_hidden}
use Rattle.picture.proofs.Keeping.{kept_count, kept_is, kept_owner, owned_for, shown_lists}
use Rattle.aktyrbuz.specs.Calls.{KeptTable, RowRun, BuildDone, DrawCall, ReachCall, HideCalls, with_bits}
use Rattle.aktyrbuz.specs.Requests.{Reaches, InReach, NoReach, HasSegment, OutsideReachUntouched, BothEnds, ReachEndsUpdated, ReachEmptyExactly, LeftEdgeReached, SegmentsNear, TablesNear, BeyondByOne, RowIs, ColumnIs, Clear, DrawingsNear, OwnersOf, OwnersLeft, OwnersAscend, OwnerIsSpline, NoOwner, SkippedHasNone, NumbersByKind, FaintCounted, FaintByKind, FileReadBack, FileWrittenBack, OneFile, TraceReadCodes, TraceWriteCodes, TraceOneOutcome, NegativeFirstStart, DesksApart, OtherDeskUnseen, OwnBitsAlone, HideChangesOneBit, HideCodes, HideOneOutcome, BuiltIsLent, AsWithoutDesks, MeetsExactly, FirstBrokenRule, ProfileCodes, ProfileBuildIsBuild, ProfileBuildCodes, ProfileOneOutcome, Edition1In2, EditionExactly, OlderReaderSaysHeader, OneFilePerVersion, VersionOneAsBefore, FileReadCodes, FileWriteCodes, FileOneOutcome, TableAcceptedExactly, AcceptedTable, TableRefusal, FirstWrongRow, CheckCodes, CheckOneOutcome, BuiltIsAccepted, AcceptedDrawsTheSame, PointsAsDefined, FirstBadByteTold, PointsRefusalsZero, PointsOneOutcome}
use Rattle.aktyrbuz.proofs.Readings.{starred_readings}
use Rattle.aktyrbuz.proofs.Calls.{draw_equation, reach_equation, hide_equation, hide_told_by, built_by, kept_are, own_alike, row_by, hides_by, build_equation}
use mathlib.Core.Bool.{Bool, true, false, true≢false, not, ◌&&◌}
use Rattle.near.proofs.Near.{rows_near, columns_near, rows_tight, columns_tight, every_finite}
use Rattle.aktyrbuz.proofs.Demands.{once_ascending, other_rows_dont_matter, keeps_other_cells, row_in_parts, image_in_parts, updates_sum, builds_the_table}
use lib.Dec.{leb, eqb}
use lib.Seq.{take_at}
use lib.Ieee.{Float, nan, inf, fin, is_nan, add, sub}
use borrow.Author.Tests.{lt-ltb, le-leb, leb-true, leb-false, eqb-true, eqb-false}
use Rattle.painting.proofs.Segments.{spline_one, makes_owned}
use Rattle.points.specs.Points.{eights}
use Rattle.table.specs.Segments.{BuildMakes, done_with}
use Rattle.table.proofs.Segments.{one_owned}
use Rattle.picture.specs.Owners.{segments_in, Ascending, Skipped}
use Rattle.picture.proofs.Owners.{Owned, makes_ascend, ascending_front, makes_owned_by, none_owned, segments_found}
use Rattle.picture.proofs.Skips.{skipped_makes_none, no_deltas_skipped}
use Rattle.numbers.specs.Arith.{0·0, ◌⊕◌, ◌⊖◌}
use Rattle.wholes.specs.Whole.{whole_by}
use Rattle.kinds.specs.Kind.{kind_by}
use Rattle.control_points.proofs.ByKind.{start_by_kind}
use Rattle.estimate.proofs.ByKind.{estimate_by_kind}
use Rattle.segments.proofs.ByBound.{rows_by_kind, columns_by_kind}
use Rattle.points.proofs.Adding.{length_eights}
use Rattle.faint.specs.Faint.{faint_in}
use Rattle.faint.proofs.Counts.{faint_front}
use lib.IntN.{ℤ}
use lib.Signed.{mag}
use Rattle.list.specs.List.{ListRooms, Got, got, Described, described}
use Rattle.reader.specs.Read.{ReadOutcome}
use Rattle.read_list.specs.Answer.{ReadAnswer}
use Rattle.read_list.specs.Answer as ReadAnswer
use Rattle.writer.specs.Write.{WriteOutcome}
use Rattle.writer.specs.WriteAnswer.{Done, Refused}
use Rattle.write_laws.specs.Floats.{Floats}
use Rattle.little.specs.Little.{numbers_in, Bytes, Numbers, Signeds}
use Rattle.trace.specs.Read.{described_in, read_trace_of}
use Rattle.trace.specs.Write.{write_trace_of}
use Rattle.trace_read.proofs.Loads.{judged_fine}
use Rattle.trace_laws.proofs.Trips.{file_then_read, read_then_file, same_file}
use Rattle.trace_laws.proofs.ReadWhen.{read_exactly, read_refused, read_else}
use Rattle.trace_laws.proofs.WriteWhen.{write_exactly, write_refused, write_done}
use Rattle.trace_laws.proofs.Readings.{small_outcome}
use Rattle.codes.specs.declared.Code.{Code}
use Rattle.aktyrbuz.specs.ListCodes.{ReadDone}
use Rattle.aktyrbuz.specs.TraceCalls.{TraceReadCall, reads, TraceWriteCall, writes}
use Rattle.profile.specs.Profile.{ProfileOutcome, tells, profile_of}
use Rattle.profile.specs.Answers.{ProfileAnswer}
use Rattle.profile.specs.Answers as ProfileAnswer
use Rattle.profile_build.specs.Building.{ProfileBuildOutcome, stopped_with, as_built}
use Rattle.profile_told.specs.Answers.{ProfileBuildAnswer}
use Rattle.profile_told.specs.Answers as ProfileBuildAnswer
use Rattle.profile_laws.proofs.Says.{meets_iff, broken_iff, refused_iff, edition_iff}
use Rattle.profile_laws.proofs.Editions.{answer_1_in_2}
use Rattle.profile_laws.proofs.Builds.{as_build, breaks_leaves, refusal_leaves, done_exactly, broken_exactly, build_refused_exactly, otherwise_is_build, edition_exactly, build_1_in_2}
use Rattle.aktyrbuz.proofs.ProfileNumbers.{profile_equation, profile_build_equation}
use Rattle.reader.specs.Refusals.{ReadRefused}
use Rattle.trace_laws.specs.Behind.{number}
use Rattle.trace2.specs.Editions.{header_long}
use Rattle.trace2.specs.Read.{FileOutcome, with_edition, read_file_of}
use Rattle.trace2.specs.Write.{write_file_of}
use Rattle.trace2.proofs.Versions.{other_as_before, write_as_before}
use Rattle.trace2_laws.proofs.Trips.{older_header, written_older, written_then_read, read_then_written, read_so}
use Rattle.aktyrbuz.specs.Trace2Calls.{FileReadCall, FileWriteCall}
use Rattle.makers.specs.CheckAnswer.{CheckAnswer}
use Rattle.makers.specs.CheckAnswer as CheckAnswer
use Rattle.makers.specs.Check.{told_of}
use Rattle.makers_laws.proofs.Refusals.{accepted_exactly, refused_row, refused_code}
use Rattle.makers_laws.specs.Cut.{cut_to_counts}
use Rattle.makers_laws.proofs.Built.{fits, fits_drawing, kept_fit, kept_is_right, kept_accepted, cut_kept, cut_tall}
use Rattle.makers_laws.proofs.Drawn.{drawn_same, reached_same}
use Rattle.aktyrbuz.specs.MakersCalls.{CheckCall}
use Rattle.aktyrbuz.proofs.MakersNumbers.{check_equation}
use Rattle.polyline.specs.Form.{PointsForm}
use Rattle.polyline.specs.Read.{PointsOutcome, read_points_of}
use Rattle.polyline.specs.Write.{write_points_of}
use Rattle.aktyrbuz.specs.PolylineCalls.{PointsReadCall, PointsWriteCall}
use Rattle.makers.specs.Refusals as makers-table
use Rattle.makers_laws.proofs.Refusals as makers-when
use Rattle.desks.specs.Hide as hide-table
use Rattle.desks.proofs.Hiding as hiding
use Rattle.draw.proofs.Parts as parts
use Rattle.kinds.specs.declared.Kind.TheVariants as Kind
use Rattle.table.specs.Table as building
use Rattle.table.proofs.Segments as making
use Rattle.reader.specs.Read as reading
use Rattle.trace2_laws.proofs.Trips as versions
use Rattle.trace2_laws.proofs.ReadWhen as reads-when
use Rattle.trace2_laws.proofs.WriteWhen as writes-when
use Rattle.aktyrbuz.specs.Trace2Calls as files
use Rattle.polyline_laws.proofs.Answers as answers
use Rattle.aktyrbuz.specs.PolylineCalls as polylines

-- ---- (i) a trace file

trace_read_equation : (bytes : List ℕ) (rooms : ListRooms) (o : ReadOutcome) → TraceReadCall bytes rooms o → o ≡ read_trace_of rooms bytes
trace_read_equation bytes rooms o (reads κs _ _ _ _ _ _ _ _ _ _ _ b p) = p

trace_read_bytes : (bytes : List ℕ) (rooms : ListRooms) (o : ReadOutcome) → TraceReadCall bytes rooms o → Bytes bytes
trace_read_bytes bytes rooms o (reads κs _ _ _ _ _ _ _ _ _ _ _ b p) = b

trace_write_equation : (ns : List ℕ) (ss : List Float) (ds cs : List ℤ) (a : ℤ) (room : ℕ) (o : WriteOutcome) → TraceWriteCall ns ss ds cs a room o → o ≡ write_trace_of ns ss ds cs a room
trace_write_equation ns ss ds cs a room o (writes κs _ _ _ _ _ _ _ n f c m p) = p

record Lent (ns : List ℕ) (ss : List Float) (cs : List ℤ) (a : ℤ) : Type 0 where
  pub counts : Numbers ns
  pub starts : Floats ss
  pub coefficients : Signeds cs
  pub adjustment : mag a < 2 ^ 31

trace_write_lent : (ns : List ℕ) (ss : List Float) (ds cs : List ℤ) (a : ℤ) (room : ℕ) (o : WriteOutcome) → TraceWriteCall ns ss ds cs a room o → Lent ns ss cs a
trace_write_lent ns ss ds cs a room o (writes κs _ _ _ _ _ _ _ n f c m p) = record { counts = n; starts = f; coefficients = c; adjustment = m }

pub file_read_back : FileReadBack
file_read_back ns ss ds cs a room o n w e rooms h q r =
    let l = trace_write_lent ns ss ds cs a room o w in
    file_then_read ns ss ds cs a room o n l.counts l.starts l.coefficients l.adjustment (trace_write_equation ns ss ds cs a room o w) e rooms h q
    (trace_read_equation _ rooms q r)

pub file_written_back : FileWrittenBack
file_written_back bytes rooms q s p a r e room h o w =
    read_then_file rooms bytes q s p a (trace_read_bytes bytes rooms q r) (trace_read_equation bytes rooms q r) e room h o (trace_write_equation _ _ _ _ a room o w)

pub one_file : OneFile
one_file bytes bytes' rooms q s p a r r' e =
    same_file rooms bytes bytes' q s p a (trace_read_bytes bytes rooms q r) (trace_read_bytes bytes' rooms q r') (trace_read_equation bytes rooms q r) (trace_read_equation bytes' rooms q r') e

-- what holds of the definition's answer holds of an outcome's
along : {A : Type 0} {x y : A} (B : A → Type 0) {C : Type 0} → x ≡ y → B y ↔ C → B x ↔ C
along B {C} e i = subst (λ (z : _). B z ↔ C) (sym e) i

done_of : (rooms : ListRooms) (x : Described) (o : ReadOutcome) → o ≡ reading.outcome rooms (got x []) → ReadDone o
done_of rooms (described a zs ns ds cs) o e = record { splines = _; points = _; adjustment = a; is = ap (λ (u : ReadOutcome). u.answer) e }

pub trace_read_codes : TraceReadCodes
unfolding read_trace_of
trace_read_codes = record {
  exactly = λ bytes rooms o r c p. along (λ (u : ReadOutcome). u.answer ≡ refused c p) (trace_read_equation bytes rooms o r) (read_exactly rooms bytes c p);
  told = λ bytes rooms o r c p t. read_refused rooms bytes c p o (trace_read_equation bytes rooms o r) t;
  else_done = λ bytes rooms o r none.
      done_of rooms (described_in 8 (numbers_in bytes)) o (trace_read_equation bytes rooms o r ∙ ap (reading.outcome rooms) (judged_fine rooms bytes (read_else rooms bytes none)));
}

pub trace_write_codes : TraceWriteCodes
trace_write_codes = record {
  exactly = λ ns ss ds cs a room o w c p.
      along (λ (u : WriteOutcome). u.answer ≡ Refused c p) (trace_write_equation ns ss ds cs a room o w) (write_exactly ns ss ds cs room a c p);
  told = λ ns ss ds cs a room o w c p t. write_refused ns ss ds cs room a c p o (trace_write_equation ns ss ds cs a room o w) t;
  done = λ ns ss ds cs a room o w n. along (λ (u : WriteOutcome). u.answer ≡ Done n) (trace_write_equation ns ss ds cs a room o w) (write_done ns ss ds cs room a n);
}

pub trace_one_outcome : TraceOneOutcome
trace_one_outcome = record {
  read = λ bytes rooms o q r t. trace_read_equation bytes rooms o r ∙ sym (trace_read_equation bytes rooms q t);
  write = λ ns ss ds cs a room o q w t. trace_write_equation ns ss ds cs a room o w ∙ sym (trace_write_equation ns ss ds cs a room q t);
}

pub negative_first_start : NegativeFirstStart
negative_first_start o r = trace_read_equation _ _ o r ∙ small_outcome

-- ---- (iii) the reach of a row

-- an answer that is done is the least range of the columns that drawing the row updates
module _ {t : Table} {s : Sight} {y W first past : ℕ} (r : Reaches t s y W first past) where
  answered : PassedReach t s y W × Least (Passing (touched t.segments (shown_of t s y)) W) (record { first = first; past = past })
  answered = reached t s y W (sym (ap (λ (o : ReachOutcome). o.answer) (reach_equation t s y W r.outcome r.called)) ∙ r.done)

  -- a column is touched exactly when it is updated
  updated : (x : ℕ) → Passing (touched t.segments (shown_of t s y)) W x → Updates t s y 0 W x
  updated x p =
      let u = touched_by t.segments (shown_of t s y) x p.1 in
      record { in_part = p.0; entry = u.entry; in_row_lem = u.in_list; has = rw (zero-add x) u.has }

  passing : (x : ℕ) → Updates t s y 0 W x → Passing (touched t.segments (shown_of t s y)) W x
  passing x u = (u.in_part, touched_if t.segments (shown_of t s y) x u.entry u.in_row_lem (rw (zero-add x) at u.has))

  reach_holds : (x : ℕ) → Updates t s y 0 W x → InReach first past x
  reach_holds x u = answered.1.holds x (passing x u)

  reach_whole : {a w : Channels} {sum : ℕ} → RowRun t s y W a w sum → Whole t s y W a sum w
  reach_whole {a} {w} {sum} z =
      let l = answered.0.lent in
      parts.row_in_parts t s y W (lt-ltb s.desk 2 l.desk) (counts_fit_for t s l.counts) (le-leb s.splines (length s.bits) l.bytes) z.in_image (row_fine_for t s y answered.0.row)
      z.narrow z.widths z.parts a w sum z.cut z.order z.wide (row_by z.drawn)

  nothing : past ≤ first → NoReach first past
  nothing h = let e = answered.1.empty h in (ap (λ (q : Range). q.first) e, ap (λ (q : Range). q.past) e)

  both_ends : (NoReach first past → ⊥) → BothEnds (Updates t s y 0 W) W first past
  both_ends some =
      ⊎_elim
      (λ h.
      let e = one_less first past h in
      let p = answered.1.ends e.0 h e.1 in
      record {
        last = e.0;
        ends = e.1;
        ordered = omega (arith, h, e.1);
        inside = omega (arith, e.1, p.0);
        at_first = updated first (answered.1.begins h);
        at_last = updated e.0 p;
      })
      (λ h. absurd (some (nothing h)))
      (lt_or_ge first past)

  none_updated : NoReach first past → (x : ℕ) → Updates t s y 0 W x → ⊥
  none_updated e x u = omega (arith, e.1, (reach_holds x u).1)

  no_reach : ((x : ℕ) → Updates t s y 0 W x → ⊥) → NoReach first past
  no_reach f = ⊎_elim (λ h. absurd (f first (updated first (answered.1.begins h)))) nothing (lt_or_ge first past)

not_true : (b : Bool) → not b ≡ true → b ≡ false
not_true true h = sym h
not_true false h = refl

-- in a kept table, the columns that are updated are those of the description's segments that have the row and are not hidden for the desk
module _ {d : Description} {i : Setting} {segments : List Segment} {owners : List ℕ} {t : Table} {s : Sight} (k : KeptTable d i segments t) (z : KeptSight d i segments owners s) {y : ℕ} (l : y < t.height) where
  row_shows : Lists (λ j. in_row t.segments j y && not (hidden_in s j)) t.segment_count (shown_of t s y)
  row_shows = shown_lists (built_by k.done) k.kept z y l

  segment_is : (j : ℕ) → j < t.segment_count → segment_at t.segments j ≡ get_or segments j (segment_at [] 0)
  segment_is j h = kept_is (built_by k.done) k.kept j (segment_at [] 0) h ∙ ap (λ (own : List Segment). get_or own j (segment_at [] 0)) (sym (kept_are k))

  how_many : t.segment_count ≡ length segments
  how_many = kept_count (built_by k.done) k.kept ∙ ap length (sym (kept_are k))

  -- a segment is hidden as its owner is
  hidden_is : (j : ℕ) → j < t.segment_count → hidden_in s j ≡ hides s (get_or owners j 0)
  hidden_is j h = ap (hides s) (kept_owner (built_by k.done) k.kept z j h)

  has_segment : {W : ℕ} (x : ℕ) → Updates t s y 0 W x → HasSegment segments owners s y x
  has_segment x u =
      let j = get_or (shown_of t s y) u.entry 0 in
      let p = row_shows.passes u.entry u.in_row_lem in
      let is = segment_is j p.0 in
      record {
        number = j;
        listed = omega (arith, p.0, how_many);
        seen = sym (hidden_is j p.0) ∙ not_true (hidden_in s j) (and_right (in_row t.segments j y) (not (hidden_in s j)) p.1);
        row = ap (λ (m : Segment). has_row m y) (sym is) ∙ and_left (in_row t.segments j y) (not (hidden_in s j)) p.1;
        column = ap (λ (m : Segment). has_column m x) (sym is) ∙ (rw (zero-add x) at u.has);
      }

  is_updated : {W : ℕ} (x : ℕ) → x < W → HasSegment segments owners s y x → Updates t s y 0 W x
  is_updated x h m =
      let n : m.number < t.segment_count = omega (arith, m.listed, how_many) in
      let is = segment_is m.number n in
      let f = row_shows.complete m.number n (rw (is, m.row, hidden_is m.number n, m.seen)) in
      record {
        in_part = h;
        entry = f.index;
        in_row_lem = f.in_row_lem;
        has = rw (zero-add x, f.is) (ap (λ (v : Segment). has_column v x) is ∙ m.column);
      }

pub outside_reach_untouched : OutsideReachUntouched
outside_reach_untouched = record {
  any = λ t s y W first past r a w sum z x out.
      let idle : Updates t s y 0 W x → ⊥ = λ u. out (reach_holds r x u) in
      (idle, whole_keeps z.wide (reach_whole r z) x idle);
  built = λ d i segments owners t s k l y W first past r a w sum z x h out.
      let idle : Updates t s y 0 W x → ⊥ = λ u. out (reach_holds r x u) in
      (λ m. idle (is_updated k l z.in_image x h m), whole_keeps z.wide (reach_whole r z) x idle);
}

-- a drawing that is done counts its updates
drawn_count : (t : Table) (s : Sight) (y x0 n : ℕ) (a : Channels) (o : DrawOutcome) (m : ℕ) → o ≡ draw_of t s y x0 n a → o.answer ≡ DrawAnswer.Done m → m ≡ updates t.segments x0 n (shown_of t s y)
unfolding draw_of
drawn_count t s y x0 n a o m e d = go (judge_draw t s y x0 n (length a.r0) (length a.r1) (length a.r2)) (sym d ∙ ap (λ (q : DrawOutcome). q.answer) e)
  where
    go : (v : Verdict) → DrawAnswer.Done m ≡ (outcome v t s y x0 n a).answer → m ≡ updates t.segments x0 n (shown_of t s y)
    go (Fault c) f = let z : ◌≡◌ {A = ℕ} 0 1 = cc in absurd (omega (arith, z))
    go Fine f = cc

pub reach_ends_updated : ReachEndsUpdated
reach_ends_updated = record {
  any = λ t s y W first past r some. both_ends r some;
  built = λ d i segments owners t s k l y W first past r some.
      let b = both_ends r some in
      let in_image = (answered r).0.in_image in
      record {
        last = b.last;
        ends = b.ends;
        ordered = b.ordered;
        inside = b.inside;
        at_first = has_segment k l in_image first b.at_first;
        at_last = has_segment k l in_image b.last b.at_last;
      };
  counted = λ t s y W x u a o n c e. rw (drawn_count t s y x 1 a o n (draw_equation t s y x 1 a o c) e) (updated_counts t s y x W u);
}

pub reach_empty_exactly : ReachEmptyExactly
reach_empty_exactly = record {
  any = λ t s y W first past r. (none_updated r, no_reach r);
  built = λ d i segments owners t s k l y W first past r.
      let in_image = (answered r).0.in_image in
      (λ e x h m. none_updated r e x (is_updated k l in_image x h m), λ f. no_reach r (λ x u. f x u.in_part (has_segment k l in_image x u)));
}

pub left_edge_reached : LeftEdgeReached
left_edge_reached t s y W first past r w j l cy e =
    reach_holds r 0 (record { in_part = w; entry = j; in_row_lem = l; has = ap (λ (m : Segment). has_column m 0) e ∙ starred_readings.column_0 cy 0 })

-- ---- (iv) line drawings

points_read_equation : (text : List ℕ) (start deltas : ℕ) (o : PointsOutcome) → PointsReadCall text start deltas o → o ≡ read_points_of start deltas text
points_read_equation text start deltas o (polylines.reads κs _ _ _ _ _ _ _ p) = p

points_write_equation : (ns : List ℕ) (ss : List Float) (ds cs : List ℤ) (k room : ℕ) (o : WriteOutcome) → PointsWriteCall ns ss ds cs k room o → o ≡ write_points_of ns ss ds cs k room
points_write_equation ns ss ds cs k room o (polylines.writes κs _ _ _ _ _ _ _ p) = p

pub points_as_defined : PointsAsDefined
points_as_defined = record { read = points_read_equation; write = points_write_equation }

pub first_bad_byte : FirstBadByteTold
first_bad_byte = record {
  place = λ text start deltas o r p. along (λ (u : PointsOutcome). u.answer ≡ Refused Code.Text p) (points_read_equation text start deltas o r) (answers.text-exactly start deltas text p);
  form = λ text start deltas o r.
      subst (λ (u : PointsOutcome). PointsForm text ↔ ((p : ℕ) → u.answer ≡ Refused Code.Text p → ⊥)) (sym (points_read_equation text start deltas o r)) (answers.form-exactly start deltas text);
}

pub points_refusals_zero : PointsRefusalsZero
points_refusals_zero = record {
  read = λ text start deltas o r c p e.
      let is = points_read_equation text start deltas o r in
      let q = is ∙ answers.read_refused start deltas text c p (sym (ap (λ (u : PointsOutcome). u.answer) is) ∙ e) in
      record { told = ap (λ (u : PointsOutcome). u.told) q; start_zero = ap (λ (u : PointsOutcome). u.start) q; deltas_zero = ap (λ (u : PointsOutcome). u.deltas) q };
  write = λ ns ss ds cs k room o w c p e.
      let is = points_write_equation ns ss ds cs k room o w in
      let q = is ∙ answers.write_refused ns ss ds cs k room c p (sym (ap (λ (u : WriteOutcome). u.answer) is) ∙ e) in
      record { answer = e; told = ap (λ (u : WriteOutcome). u.told) q; list = ap (λ (u : WriteOutcome). u.list) q };
}

pub points_one_outcome : PointsOneOutcome
points_one_outcome = record {
  read = λ text start deltas o q r t. points_read_equation text start deltas o r ∙ sym (points_read_equation text start deltas q t);
  write = λ ns ss ds cs k room o q w t. points_write_equation ns ss ds cs k room o w ∙ sym (points_write_equation ns ss ds cs k room q t);
}

-- ---- (v) the number of a segment's spline

module _ {d : Description} {i : Setting} {r : BuildRooms} {o : BuildOutcome} {s e estimate : ℕ} (b : BuildDone d i r o s e estimate) where
  -- what the build made
  made : BuildMakes d i r s e estimate b.faint
  made = builds_the_table.made d i r o s e estimate b

  is : o ≡ done_with d i r made.segs made.owners
  is = build_equation d i r o b.called ∙ made.leaves_them

  left : OwnersOf r o s made.owners
  unfolding done_with
  left = record { count = makes_owned d (given_of i) i.high made.makes ∙ made.count; cells = ap (λ (t : BuildOutcome). t.owners) is }

  floats : o.segments ≡ padded r.segments 0·0 (eights made.segs)
  unfolding done_with
  floats = ap (λ (t : BuildOutcome). t.segments) is

  -- the owners and the segments of the table are those that were made
  owners_are : take s o.owners ≡ made.owners
  owners_are = ap (take s) left.cells ∙ take_at made.owners _ s left.count

  segments_are : segments_in o.segments 0 s ≡ made.segs
  segments_are =
      ap (λ (l : List Float). segments_in l 0 s) floats
      ∙ ap (segments_in (padded r.segments 0·0 (eights made.segs)) 0) (sym made.count)
      ∙ segments_found made.segs (zeros (r.segments - length (eights made.segs)))

  ascend : Ascending (length d.counts) s o.owners
  ascend =
      rw left.cells
      (ascending_front (length d.counts) s made.owners _ left.count (rw left.count at (makes_ascend d (given_of i) i.high made.makes)))

  owned : (k : ℕ) → k < length d.counts → Owned d (given_of i) i.high k made.segs made.owners
  owned k h = makes_owned_by d (given_of i) i.high made.makes k h

  -- where the spline k makes no segment
  no_owner : (k : ℕ) → Skipped d k → NoOwner k s o
  no_owner k p j h q = go (leb (suc k) (length d.counts)) refl
    where
      go : (t : Bool) → leb (suc k) (length d.counts) ≡ t → ⊥
      go true l =
          let w = owned k (leb-true (suc k) (length d.counts) l) in
          let n = skipped_makes_none d (given_of i) i.high k w.own p w.makes in
          let c = left.count in
          let v : get_or made.owners j 0 ≡ k = sym (get_or-append made.owners _ 0 j (omega arith)) ∙ ap (λ (us : List ℕ). get_or us j 0) (sym left.cells) ∙ q in
          none_owned k made.owners made.segs (c ∙ sym made.count) (w.are ∙ n) j (omega arith) v
      go false l =
          let m = leb-false (suc k) (length d.counts) l in
          let a = ascend.below j h in
          omega arith

pub owners_left : OwnersLeft
owners_left d i r o s e estimate b segments owners m =
    let q = one_owned d i segments (made b).segs owners (made b).owners m (made b).makes in
    rw q.1 (left b)

pub owners_ascend : OwnersAscend
owners_ascend d i r o s e estimate b = ascend b

pub owner_is_spline : OwnerIsSpline
owner_is_spline d i r o s e estimate b k h =
    let w = owned b k h in
    record {
      own = w.own;
      makes = w.makes;
      only = λ others m. spline_one d (given_of i) i.high k others w.own m w.makes;
      are = rw (owners_are b, segments_are b) w.are;
    }

pub skipped_has_none : SkippedHasNone
skipped_has_none = record {
  skipped = λ d i r o s e estimate b k p. no_owner b k p;
  no_deltas = λ d i r o s e estimate b k h z. no_deltas_skipped d (given_of i) i.high k (made b).needs.passes h z;
}

-- ---- (vi) two desks, one table

drawn_apart : (t : Table) (s : Sight) (bits : List ℕ) → Agree s (with_bits s bits) → (y x0 n : ℕ) (a : Channels) (o q : DrawOutcome)
    → DrawCall t s y x0 n a o → DrawCall t (with_bits s bits) y x0 n a q → o ≡ q
drawn_apart t s bits agree y x0 n a o q = other_rows_dont_matter.draw t t s (with_bits s bits) y (own_alike y t s bits agree) x0 n a o q

reached_apart : (t : Table) (s : Sight) (bits : List ℕ) → Agree s (with_bits s bits) → (y W : ℕ) (o q : ReachOutcome) → ReachCall t s y W o → ReachCall t (with_bits s bits) y W q → o ≡ q
reached_apart t s bits agree y W o q = other_rows_dont_matter.reach t t s (with_bits s bits) y (own_alike y t s bits agree) W o q

pub desks_apart : DesksApart
desks_apart = record { draw = drawn_apart; reach = reached_apart }

-- hides by another desk leave the desk's own bits
pub hides_agree : (s : Sight) (other : ℕ) → (other ≡ s.desk → ⊥) → (bits : List ℕ) → HideCalls other s.bits bits → Agree s (with_bits s bits)
hides_agree s other apart bits run =
    let as_many = hides_length (hides_by run) in
    record {
      desk = refl;
      splines = refl;
      lent = (λ h. omega (arith, h, as_many), λ h. omega (arith, h, as_many));
      own_bits = record { own_bits = λ k l. sym (hides_keep s.desk (λ e. apart (sym e)) (hides_by run) k) };
    }

-- one hide of two byte slices of one length, whose bits of the desk are alike
hidden_alike : (desk spline : ℕ) (hidden : Bool) (a b : List ℕ) → length b ≡ length a → ((k : ℕ) → bit_of desk (get_or a k 0) ≡ bit_of desk (get_or b k 0))
    → ((hide_of a desk spline hidden).answer ≡ (hide_of b desk spline hidden).answer)
    × ((k : ℕ) → bit_of desk (get_or (hide_of a desk spline hidden).bits k 0) ≡ bit_of desk (get_or (hide_of b desk spline hidden).bits k 0))
hidden_alike desk spline hidden a b as_many same = go (way a desk spline hidden)
  where
    refused : {c : Code} {p : ℕ} → HideRefusal a desk spline c p → HideRefusal b desk spline c p
        → ((hide_of a desk spline hidden).answer ≡ (hide_of b desk spline hidden).answer)
        × ((k : ℕ) → bit_of desk (get_or (hide_of a desk spline hidden).bits k 0) ≡ bit_of desk (get_or (hide_of b desk spline hidden).bits k 0))
    refused l m = rw (hide_refused a desk spline hidden l, hide_refused b desk spline hidden m) (refl, same)

    sets : (k : ℕ) → desk < 2 → spline < length a → k ≡ spline → bit_of desk (get_or (hide_of a desk spline hidden).bits k 0) ≡ bit_of desk (get_or (hide_of b desk spline hidden).bits k 0)
    sets k h l e = rw e (hide_sets a desk spline hidden h l ∙ sym (hide_sets b desk spline hidden h (omega (arith, l, as_many))))

    keeps : (k : ℕ) → (k ≡ spline → desk ≡ desk → ⊥) → bit_of desk (get_or (hide_of a desk spline hidden).bits k 0) ≡ bit_of desk (get_or (hide_of b desk spline hidden).bits k 0)
    keeps k other = hide_keeps a desk spline hidden k desk other ∙ same k ∙ sym (hide_keeps b desk spline hidden k desk other)

    by : (k : ℕ) → desk < 2 → spline < length a → (t : Bool) → eqb k spline ≡ t → bit_of desk (get_or (hide_of a desk spline hidden).bits k 0) ≡ bit_of desk (get_or (hide_of b desk spline hidden).bits k 0)
    by k h l true e = sets k h l (eqb-true k spline e)
    by k h l false e = keeps k (λ q r. eqb-false k spline e q)

    go : Way a desk spline hidden → ((hide_of a desk spline hidden).answer ≡ (hide_of b desk spline hidden).answer)
        × ((k : ℕ) → bit_of desk (get_or (hide_of a desk spline hidden).bits k 0) ≡ bit_of desk (get_or (hide_of b desk spline hidden).bits k 0))
    go (no_desk h) = refused (hide-table.desk h) (hide-table.desk h)
    go (no_byte h l) = refused (hide-table.trace h l) (hide-table.trace h (omega (arith, l, as_many)))
    go (one_bit h l) = (
      ap (λ (u : HideOutcome). u.answer) (hide_done a desk spline hidden h l) ∙ sym (ap (λ (u : HideOutcome). u.answer) (hide_done b desk spline hidden h (omega (arith, l, as_many)))),
      λ k. by k h l (eqb k spline) refl,
    )

pub other_desk_unseen : OtherDeskUnseen
other_desk_unseen = record {
  draw = λ t s other apart bits run. drawn_apart t s bits (hides_agree s other apart bits run);
  reach = λ t s other apart bits run. reached_apart t s bits (hides_agree s other apart bits run);
  hide = λ desk other apart a b run spline hidden o q c e.
      rw (hide_equation a desk spline hidden o c, hide_equation b desk spline hidden q e)
      (hidden_alike desk spline hidden a b (hides_length (hides_by run)) (λ k. sym (hides_keep desk (λ u. apart (sym u)) (hides_by run) k)));
}

pub own_bits_alone : OwnBitsAlone
own_bits_alone desk splines a b la lb same spline hidden o q c e =
    rw (hide_equation a desk spline hidden o c, hide_equation b desk spline hidden q e)
    (⊎_elim
    (λ h. hiding.own_bits_alone desk splines spline hidden a b la lb h same)
    (λ h. record {
      own_bits = λ k l.
          let other : k ≡ spline → desk ≡ desk → ⊥ = λ u v. omega (arith, h, l, u) in
          hide_keeps a desk spline hidden k desk other ∙ same.own_bits k l ∙ sym (hide_keeps b desk spline hidden k desk other);
    })
    (lt_or_ge spline splines))

-- where hide is done, and only there, the desk is one of the two and the spline has a byte
hide_when : (a : List ℕ) (desk spline : ℕ) (hidden : Bool) → ((hide_of a desk spline hidden).answer ≡ HideAnswer.Done) ↔ ((desk < 2) × (spline < length a))
hide_when a desk spline hidden =
    (λ e. go e (way a desk spline hidden), λ h. ap (λ (u : HideOutcome). u.answer) (hide_done a desk spline hidden h.0 h.1))
  where
    refused : {c : Code} {p : ℕ} → (hide_of a desk spline hidden).answer ≡ HideAnswer.Done → HideRefusal a desk spline c p → ⊥
    refused e l =
        let g = sym (ap (λ (u : HideOutcome). u.answer) (hide_refused a desk spline hidden l)) ∙ e in
        let z : ◌≡◌ {A = ℕ} 0 1 = cc in
        omega (arith, z)

    go : (hide_of a desk spline hidden).answer ≡ HideAnswer.Done → Way a desk spline hidden → (desk < 2) × (spline < length a)
    go e (no_desk h) = absurd (refused e (hide-table.desk h))
    go e (no_byte h l) = absurd (refused e (hide-table.trace h l))
    go e (one_bit h l) = (h, l)

pub hide_changes_one_bit : HideChangesOneBit
hide_changes_one_bit = record {
  asked = λ a desk spline hidden o c e.
      let is = hide_equation a desk spline hidden o c in
      let h = (hide_when a desk spline hidden).0 (sym (ap (λ (u : HideOutcome). u.answer) is) ∙ e) in
      rw is (hide_sets a desk spline hidden h.0 h.1);
  others = λ a desk spline hidden o c k bit other. rw (hide_equation a desk spline hidden o c) (hide_keeps a desk spline hidden k bit (λ p q. other (p, q)));
  as_many = λ a desk spline hidden o c. rw (hide_equation a desk spline hidden o c) (hide_length a desk spline hidden);
  refused = λ a desk spline hidden o n p c e.
      let is = hide_equation a desk spline hidden o c in
      let l = (hide_refused_exactly a desk spline hidden n p).0 (sym (ap (λ (u : HideOutcome). u.answer) is) ∙ e) in
      ap (λ (u : HideOutcome). u.bits) (is ∙ hide_refused a desk spline hidden l);
}

pub hide_codes : HideCodes
hide_codes = record {
  exactly = λ a desk spline hidden o h c p. along (λ (u : HideOutcome). u.answer ≡ HideAnswer.Refused c p) (hide_equation a desk spline hidden o h) (hide_refused_exactly a desk spline hidden c p);
  told = λ a desk spline hidden o h c p e.
      let is = ap (λ (u : HideOutcome). u.answer) (hide_equation a desk spline hidden o h) in
      let place : p ≡ 0 = hide_place a desk spline hidden ((hide_refused_exactly a desk spline hidden c p).0 (sym is ∙ e)) in
      ap (λ (u : HideOutcome). u.told) (hide_told_by a desk spline hidden o h) ∙ ap hide-table.told_of (e ∙ ap (HideAnswer.Refused c) place);
  done = λ a desk spline hidden o h. along (λ (u : HideOutcome). u.answer ≡ HideAnswer.Done) (hide_equation a desk spline hidden o h) (hide_when a desk spline hidden);
}

pub hide_one_outcome : HideOneOutcome
hide_one_outcome a desk spline hidden o q c e = hide_equation a desk spline hidden o c ∙ sym (hide_equation a desk spline hidden q e)

pub built_is_lent : BuiltIsLent
built_is_lent d i r o n e estimate b segments owners m bits desk enough two =
    let l = owners_left d i r o n e estimate b segments owners m in
    record {
      makes = m;
      kept = ap (take (length owners)) l.cells ∙ take_at owners _ (length owners) refl;
      splines = refl;
      bytes = enough;
      desk = two;
    }

pub as_without_desks : AsWithoutDesks
as_without_desks = record {
  draw = λ t s y x0 n a o none c. draw_equation t s y x0 n a o c ∙ whole_row t s y x0 n a none;
  reach = λ t s y W o none c. reach_equation t s y W o c ∙ whole_reach t s y W none;
  segments = λ d i segments owners s z none. none_hidden z none;
  row = λ d i segments owners t s k z none y W a w sum run.
      let e = none_hidden z none in
      let g = nothing_hidden s (row_of t y) none (owned_for (built_by k.done) k.kept z y run.in_image) in
      let u = updates_sum.row d i segments owners t s k z y W a w sum run in (
        subst (λ (own : List Segment). RowPicture own y a w) e (row_in_parts d i segments owners t s k z y W a w sum run),
        u.0 ∙ ap (λ (own : List Segment). row_pairs own W y) e,
        subst (λ (l : List ℕ). sum ≤ W * length l) g u.1,
      );
  image = λ d i segments owners t s k z none W a w sum run.
      let e = none_hidden z none in (
        λ y h. subst (λ (own : List Segment). RowPicture own y (a y) (w y)) e (image_in_parts d i segments owners t s k z W a w sum run y h),
        (updates_sum.image d i segments owners t s k z W a w sum run).0 ∙ ap (λ (own : List Segment). image_pairs own W 0 i.height) e,
      );
}

-- ---- (vii) why a segment sits at the corner

pub numbers_by_kind : NumbersByKind
numbers_by_kind = record { rows = rows_by_kind; columns = columns_by_kind; starts = start_by_kind; estimates = estimate_by_kind }

pub faint_counted : FaintCounted
faint_counted d i r o s e estimate b =
    let q : o ≡ building.build_of d i r = build_equation d i r o b.called in
    let m = making.build_makes d i r s e estimate b.faint (sym (ap (λ (u : building.BuildOutcome). u.answer) q) ∙ b.done) in
    let xs = eights m.segs in
    sym m.faint_count
    ∙ sym (faint_front xs (building.zeros (r.segments - length xs)) (length m.segs) (omega (arith, length_eights m.segs)))
    ∙ ap (λ (l : List Float). faint_in l (length m.segs)) (sym (ap (λ (u : building.BuildOutcome). u.segments) q ∙ m.numbers))
    ∙ ap (faint_in o.segments) m.count

-- with a NaN every sum and difference is NaN, and R keeps it
ends_of : (x d : Float) → is_nan d ≡ true → (row_end (x ⊖ d) ≡ Kind.NotNumber) × (row_end (x ⊕ d) ≡ Kind.NotNumber) × (column_end (x ⊖ d) ≡ Kind.NotNumber) × (column_end (x ⊕ d) ≡ Kind.NotNumber)
unfolding is_nan kind_by whole_by add sub
ends_of nan nan h = (refl, refl, refl, refl)
ends_of (inf s) nan h = (refl, refl, refl, refl)
ends_of (fin s m e) nan h = (refl, refl, refl, refl)
ends_of x (inf s) h = absurd (true≢false (sym h))
ends_of x (fin s m e) h = absurd (true≢false (sym h))

pub faint_by_kind : FaintByKind
faint_by_kind s h =
    let y = ends_of s.center_y s.maximum_distance h in
    let x = ends_of s.center_x s.maximum_distance h in
    record { first_row = y.0; last_row = y.1; first_column = x.2; last_column = x.3 }

-- ---- (ix) the fineness profile

pub meets_exactly : MeetsExactly
unfolding profile_of
meets_exactly d a e o c = along (λ (u : ProfileOutcome). u.answer ≡ ProfileAnswer.Meets) (profile_equation d a e o c) (meets_iff d a e)

pub first_broken_rule : FirstBrokenRule
unfolding profile_of
first_broken_rule d a e o c rule k = along (λ (u : ProfileOutcome). u.answer ≡ ProfileAnswer.Broken rule k) (profile_equation d a e o c) (broken_iff d a e rule k)

pub profile_codes : ProfileCodes
unfolding profile_of
profile_codes = record {
  exactly = λ d a e o c k p. along (λ (u : ProfileOutcome). u.answer ≡ ProfileAnswer.Refused k p) (profile_equation d a e o c) (refused_iff d a e k p);
  broken = λ d a e o c rule k b. ap (λ (u : ProfileOutcome). u.told) (profile_equation d a e o c ∙ ap (λ (x : ProfileAnswer). tells x) ((broken_iff d a e rule k).1 b));
  refused = λ d a e o c k p w. ap (λ (u : ProfileOutcome). u.told) (profile_equation d a e o c ∙ ap (λ (x : ProfileAnswer). tells x) ((refused_iff d a e k p).1 w));
  met = λ d a e o c m. ap (λ (u : ProfileOutcome). u.told) (profile_equation d a e o c ∙ ap (λ (x : ProfileAnswer). tells x) ((meets_iff d a e).1 m));
}

-- an outcome answers what its definition answers, and where that is a build's, so is the outcome
answered_by : {o w : ProfileBuildOutcome} {x : ProfileBuildAnswer} → o ≡ w → o.answer ≡ x → w.answer ≡ x
answered_by is q = sym (ap (λ (u : ProfileBuildOutcome). u.answer) is) ∙ q

built_by_profile : {o w : ProfileBuildOutcome} {v : BuildOutcome} → o ≡ w → w ≡ as_built v → (b : BuildOutcome) → b ≡ v → o ≡ as_built b
built_by_profile is k b q = is ∙ k ∙ ap (λ (u : BuildOutcome). as_built u) (sym q)

pub profile_build_is_build : ProfileBuildIsBuild
profile_build_is_build = record {
  accepted = λ d i e r o c s n t f q.
      let is = profile_build_equation d i e r o c in
      let w = (done_exactly d i e r s n t f).0 (answered_by is q) in
      (w.fits, λ b k. built_by_profile is (as_build d i e r w.fits) b (build_equation d i r b k));
  plain = λ d i e r o c w b k. built_by_profile (profile_build_equation d i e r o c) (as_build d i e r w) b (build_equation d i r b k);
  otherwise = λ d i e r o c k p q n b z.
      let is = profile_build_equation d i e r o c in
      built_by_profile is (otherwise_is_build d i e r k p n (answered_by is q)) b (build_equation d i r b z);
}

pub profile_build_codes : ProfileBuildCodes
unfolding stopped_with
profile_build_codes = record {
  done = λ d i e r o c s n t f.
      along (λ (u : ProfileBuildOutcome). u.answer ≡ ProfileBuildAnswer.Done s n t f) (profile_build_equation d i e r o c) (done_exactly d i e r s n t f);
  broken = λ d i e r o c rule k.
      along (λ (u : ProfileBuildOutcome). u.answer ≡ ProfileBuildAnswer.Broken rule k) (profile_build_equation d i e r o c) (broken_exactly d i e r rule k);
  refused = λ d i e r o c k p.
      along (λ (u : ProfileBuildOutcome). u.answer ≡ ProfileBuildAnswer.Refused k p) (profile_build_equation d i e r o c) (build_refused_exactly d i e r k p);
  broken_zero = λ d i e r o c rule k w.
      let q = profile_build_equation d i e r o c ∙ breaks_leaves d i e r rule k w in
      (q, ap (λ (u : ProfileBuildOutcome). u.told) q);
  refused_zero = λ d i e r o c k p w.
      let q = profile_build_equation d i e r o c ∙ refusal_leaves d i e r k p w in
      (q, ap (λ (u : ProfileBuildOutcome). u.told) q);
}

pub profile_one_outcome : ProfileOneOutcome
profile_one_outcome = record {
  check = λ d a e o q c k. profile_equation d a e o c ∙ sym (profile_equation d a e q k);
  build = λ d i e r o q c k. profile_build_equation d i e r o c ∙ sym (profile_build_equation d i e r q k);
}

-- ---- (x) edition 2, with edition 1 kept: the profile

pub edition_1_in_2 : Edition1In2
unfolding profile_of
edition_1_in_2 = record {
  check = λ d a o q c k m.
      ap (λ (u : ProfileOutcome). u.answer) (profile_equation d a 2 q k) ∙ answer_1_in_2 d a (sym (ap (λ (u : ProfileOutcome). u.answer) (profile_equation d a 1 o c)) ∙ m);
  build = λ d i r o q c k s n t f w.
      let is = profile_build_equation d i 1 r o c in
      profile_build_equation d i 2 r q k ∙ build_1_in_2 d i r s n t f (answered_by is w) ∙ sym is;
}

pub edition_refused_exactly : EditionExactly
unfolding profile_of
edition_refused_exactly = record {
  check = λ d a e o c p. along (λ (u : ProfileOutcome). u.answer ≡ ProfileAnswer.Refused Code.Edition p) (profile_equation d a e o c) (edition_iff d a e p);
  build = λ d i e r o c p. along (λ (u : ProfileBuildOutcome). u.answer ≡ ProfileBuildAnswer.Refused Code.Edition p) (profile_build_equation d i e r o c) (edition_exactly d i e r p);
}

-- ---- (x) edition 2: trace files

file_read_equation : (bytes : List ℕ) (rooms : ListRooms) (o : FileOutcome) → FileReadCall bytes rooms o → o ≡ read_file_of rooms bytes
file_read_equation bytes rooms o (files.reads κs _ _ _ _ _ _ _ _ _ _ _ b p) = p

file_read_bytes : (bytes : List ℕ) (rooms : ListRooms) (o : FileOutcome) → FileReadCall bytes rooms o → Bytes bytes
file_read_bytes bytes rooms o (files.reads κs _ _ _ _ _ _ _ _ _ _ _ b p) = b

file_write_equation : (ns : List ℕ) (ss : List Float) (ds cs : List ℤ) (a : ℤ) (v e room : ℕ) (o : WriteOutcome) → FileWriteCall ns ss ds cs a v e room o → o ≡ write_file_of ns ss ds cs a v e room
file_write_equation ns ss ds cs a v e room o (files.writes κs _ _ _ _ _ _ _ _ _ _ _ n f c m p) = p

file_write_lent : (ns : List ℕ) (ss : List Float) (ds cs : List ℤ) (a : ℤ) (v e room : ℕ) (o : WriteOutcome) → FileWriteCall ns ss ds cs a v e room o → Lent ns ss cs a
file_write_lent ns ss ds cs a v e room o (files.writes κs _ _ _ _ _ _ _ _ _ _ _ n f c m p) = record { counts = n; starts = f; coefficients = c; adjustment = m }

refused_by : (rooms : ListRooms) (c : Code) (k : ℕ) (o : ReadOutcome) → o ≡ reading.outcome rooms (Got.stop c k) → ReadRefused rooms c k o
refused_by rooms c k o e = record {
  answer = ap (λ (u : ReadOutcome). u.answer) e;
  told = ap (λ (u : ReadOutcome). u.told) e;
  counts = ap (λ (u : ReadOutcome). u.counts) e;
  starts = ap (λ (u : ReadOutcome). u.starts) e;
  deltas = ap (λ (u : ReadOutcome). u.deltas) e;
  coefficients = ap (λ (u : ReadOutcome). u.coefficients) e;
}

pub older_reader_says_header : OlderReaderSaysHeader
older_reader_says_header = record {
  any = λ bytes rooms o l v r. refused_by rooms Code.Header 0 o (trace_read_equation bytes rooms o r ∙ older_header rooms bytes l v);
  written = λ ns ss ds cs a e room o n w d rooms q r.
      refused_by rooms Code.Header 0 q (trace_read_equation _ rooms q r ∙ written_older ns ss ds cs a e room o n (file_write_equation ns ss ds cs a 2 e room o w) d rooms);
}

pub one_file_per_version : OneFilePerVersion
one_file_per_version = record {
  read_back = λ ns ss ds cs a v e room o n w d rooms h q r.
      let l = file_write_lent ns ss ds cs a v e room o w in
      written_then_read ns ss ds cs a v e room o n l.counts l.starts l.coefficients l.adjustment (file_write_equation ns ss ds cs a v e room o w) d rooms h q
      (file_read_equation _ rooms q r);
  written_back = λ bytes rooms q s p a r d room h v i o w.
      read_then_written rooms bytes q s p a (file_read_bytes bytes rooms q r) (file_read_equation bytes rooms q r) d room h v i o (file_write_equation _ _ _ _ a v _ room o w);
  one = λ bytes bytes' rooms q s p a r r' d v.
      versions.same_file rooms bytes bytes' q s p a (file_read_bytes bytes rooms q r) (file_read_bytes bytes' rooms q r') (file_read_equation bytes rooms q r) (file_read_equation bytes' rooms q r') d v;
}

pub version_1_as_before : VersionOneAsBefore
version_1_as_before = record {
  read = λ bytes rooms o q v r t.
      file_read_equation bytes rooms o r ∙ other_as_before rooms bytes (λ two. omega (arith, two, v)) ∙ ap (with_edition 1) (sym (trace_read_equation bytes rooms q t));
  write = λ ns ss ds cs a room o q w t.
      file_write_equation ns ss ds cs a 1 1 room o w ∙ write_as_before ns ss ds cs a room ∙ sym (trace_write_equation ns ss ds cs a room q t);
}

pub file_read_codes : FileReadCodes
file_read_codes = record {
  exactly = λ bytes rooms o r c p. along (λ (u : FileOutcome). u.read.answer ≡ refused c p) (file_read_equation bytes rooms o r) (reads-when.read_exactly rooms bytes c p);
  told = λ bytes rooms o r c p t. reads-when.read_refused rooms bytes c p o (file_read_equation bytes rooms o r) t;
  else_done = λ bytes rooms o r none.
      let e = file_read_equation bytes rooms o r ∙ read_so rooms bytes (reads-when.read_else rooms bytes none) in
      (done_of rooms (described_in (header_long (number bytes 0)) (numbers_in bytes)) o.read (ap (λ (u : FileOutcome). u.read) e), ap (λ (u : FileOutcome). u.edition) e);
}

pub file_write_codes : FileWriteCodes
file_write_codes = record {
  exactly = λ ns ss ds cs a v e room o w c p.
      along (λ (u : WriteOutcome). u.answer ≡ Refused c p) (file_write_equation ns ss ds cs a v e room o w) (writes-when.write_exactly ns ss ds cs v e room a c p);
  told = λ ns ss ds cs a v e room o w c p t. writes-when.write_refused ns ss ds cs v e room a c p o (file_write_equation ns ss ds cs a v e room o w) t;
  done = λ ns ss ds cs a v e room o w n.
      along (λ (u : WriteOutcome). u.answer ≡ Done n) (file_write_equation ns ss ds cs a v e room o w) (writes-when.write_done ns ss ds cs v e room a n);
}

pub file_one_outcome : FileOneOutcome
file_one_outcome = record {
  read = λ bytes rooms o q r t. file_read_equation bytes rooms o r ∙ sym (file_read_equation bytes rooms q t);
  write = λ ns ss ds cs a v e room o q w t. file_write_equation ns ss ds cs a v e room o w ∙ sym (file_write_equation ns ss ds cs a v e room q t);
}

-- ---- (xii) row tables from the other maker

pub table_accepted_exactly : TableAcceptedExactly
table_accepted_exactly t o c m = along (λ (u : CheckAnswer). u ≡ CheckAnswer.Done m) (check_equation t o c) (accepted_exactly _ _ _ _ _ _ m)

table_refused_exactly : (t : Table) (o : CheckAnswer) → CheckCall t o → (c : Code) (p : ℕ) → o ≡ CheckAnswer.Refused c p ↔ TableRefusal t c p
table_refused_exactly t o k c p = along (λ (u : CheckAnswer). u ≡ CheckAnswer.Refused c p) (check_equation t o k) (makers-when.refused_exactly _ _ _ _ _ _ c p)

pub first_wrong_row : FirstWrongRow
first_wrong_row = record {
  exactly = λ t o k f w.
      let x = table_refused_exactly t o k Code.Table w in
      (λ e. refused_row _ _ _ _ _ _ f (x.0 e), λ h. x.1 (makers-table.row f h));
  only = λ t o k f c p e. refused_code _ _ _ _ _ _ f ((table_refused_exactly t o k c p).0 e);
}

-- an answer that is no refusal is a success
else_done : (o : CheckAnswer) → ((c : Code) (p : ℕ) → o ≡ CheckAnswer.Refused c p → ⊥) → (n : ℕ) → ((m : ℕ) → o ≡ CheckAnswer.Done m → m ≡ n) → o ≡ CheckAnswer.Done n
else_done (CheckAnswer.Done m) none n h = ap CheckAnswer.Done (h m refl)
else_done (CheckAnswer.Refused c p) none n h = absurd (none c p refl)

pub check_codes : CheckCodes
check_codes = record {
  exactly = table_refused_exactly;
  told = λ t o k c p w. ap told_of ((table_refused_exactly t o k c p).1 w);
  done = λ t o k m a. ap told_of ((table_accepted_exactly t o k m).1 a ∙ ap CheckAnswer.Done a.told);
  else_done = λ t o k none.
      else_done o (λ c p e. none c p ((table_refused_exactly t o k c p).0 e)) t.entry_count (λ m e. ((table_accepted_exactly t o k m).0 e).told);
}

pub check_one_outcome : CheckOneOutcome
check_one_outcome t o q c k = check_equation t o c ∙ sym (check_equation t q k)

pub built_is_accepted : BuiltIsAccepted
built_is_accepted = record {
  cut = λ d i r o s e estimate b q c.
      let t = built_by b in
      check_equation (cut_to_counts (built i o s e)) q c ∙ kept_accepted t (cut_kept (built i o s e)) (cut_tall (built i o s e) (fits t));
  kept = λ d i segments t k tall q c. check_equation t q c ∙ kept_accepted (built_by k.done) k.kept tall;
}

-- a table that is accepted fits and is right
pub accepted_is : (u : Table) (m : ℕ) → CheckCall u (CheckAnswer.Done m) → AcceptedTable u m
accepted_is u m c = (table_accepted_exactly u (CheckAnswer.Done m) c m).0 refl

pub accepted_draws_the_same : AcceptedDrawsTheSame
accepted_draws_the_same = record {
  draw = λ d i segments t u k same m c s y x0 n a o q z w.
      let b = built_by k.done in
      let v = accepted_is u m c in
      draw_equation t s y x0 n a o z
      ∙ drawn_same same.count same.height same.floats (kept_is_right b k.kept) v.right (kept_fit b k.kept) (fits_drawing u v.fits) s y x0 n a
      ∙ sym (draw_equation u s y x0 n a q w);
  reach = λ d i segments t u k same m c s y W o q z w.
      let b = built_by k.done in
      let v = accepted_is u m c in
      reach_equation t s y W o z
      ∙ reached_same same.count same.height same.floats (kept_is_right b k.kept) v.right (kept_fit b k.kept) (fits_drawing u v.fits) s y W
      ∙ sym (reach_equation u s y W q w);
}

-- ---- (xiii) how near a listed row is

pub segments_near : SegmentsNear
segments_near = record { rows = rows_near; columns = columns_near; rows_tight = rows_tight; columns_tight = columns_tight; finite = every_finite }

-- an entry of a row names a segment that has the row
found_has : (test : ℕ → Bool) (n : ℕ) (row : List ℕ) (j : ℕ) → Lists test n row → Found row j → test j ≡ true
found_has test n row j l f = subst (λ (z : ℕ). test z ≡ true) f.is (l.passes f.index f.in_row_lem).1

-- a row farther than d + 1 is not the segment's, nor is a column
no_row : (s : Segment) (y : ℕ) → RowIs BeyondByOne s y → has_row s y ≡ true → ⊥
no_row s y b e = not-le_of_lt b.is ((rows_near s b.k b.c b.d b.edge).outside y e)

no_column : (s : Segment) (x : ℕ) → ColumnIs BeyondByOne s x → has_column s x ≡ true → ⊥
no_column s x b e = not-le_of_lt b.is ((columns_near s b.k b.c b.d b.edge b.clear).outside x e)

module _ (d : Description) (i : Setting) (segments : List Segment) (t : Table) (kept : KeptTable d i segments t) (y j : ℕ) (h : y < i.height) where
  has : Found (row_of t y) j → has_row (segment_at t.segments j) y ≡ true
  has = found_has (λ k. has_row (segment_at t.segments k) y) t.segment_count (row_of t y) j (once_ascending d i segments t kept y h)

pub tables_near : TablesNear
tables_near d i segments t kept j named k c far edge =
    let near = rows_near (segment_at t.segments j) k c far edge in
    record {
      inside = λ y h close. (once_ascending d i segments t kept y h).complete j named (near.inside y close);
      outside = λ y h found. near.outside y (has d i segments t kept y j h found);
    }

-- a pixel that is so far from segment j is not updated by it
not_both : (t : Table) (y x j : ℕ) → Clear t y x j → has_row (segment_at t.segments j) y ≡ true → has_column (segment_at t.segments j) x ≡ true → ⊥
not_both t y x j (inl b) f e = no_row (segment_at t.segments j) y b f
not_both t y x j (inr b) f e = no_column (segment_at t.segments j) x b e

-- what is shown in a row has it and is not hidden
shown_has : (t : Table) (s : Sight) (y j : ℕ) → (in_row t.segments j y && not (hidden_in s j)) ≡ true → (has_row (segment_at t.segments j) y ≡ true) × (hidden_in s j ≡ false)
shown_has t s y j e = (and_left (in_row t.segments j y) (not (hidden_in s j)) e, not_true (hidden_in s j) (and_right (in_row t.segments j y) (not (hidden_in s j)) e))

pub drawings_near : DrawingsNear
drawings_near = record {
  inside = λ d i segments owners t s kept z y x0 n x j h in_part named seen row column.
      let near = (rows_near (segment_at t.segments j) row.k row.c row.d row.edge).inside y row.is in
      let l : y < t.height = omega (arith, h, kept.kept.height) in
      let f = (row_shows kept z l).complete j named (rw (near, seen)) in
      let e = (columns_near (segment_at t.segments j) column.k column.c column.d column.edge column.clear).inside (x0 + x) column.is in
      record { updates = record { in_part = in_part; entry = f.index; in_row_lem = f.in_row_lem; has = rw f.is e }; by = f.is };
  outside = λ d i segments owners t s kept z y x0 n x j h clear u.
      let l : y < t.height = omega (arith, h, kept.kept.height) in
      let p = (row_shows kept z l).passes u.updates.entry u.updates.in_row_lem in
      let q = shown_has t s y (get_or (shown_of t s y) u.updates.entry 0) p.1 in
      not_both t y (x0 + x) j clear (rw u.by at q.0) (rw u.by at u.updates.has);
  kept = λ d i segments owners t s kept z y x0 n a o h called x clear.
      let l : y < t.height = omega (arith, h, kept.kept.height) in
      keeps_other_cells.cells t s y x0 n a o called x (λ u.
      let j = get_or (shown_of t s y) u.entry 0 in
      let p = (row_shows kept z l).passes u.entry u.in_row_lem in
      let q = shown_has t s y j p.1 in
      not_both t y (x0 + x) j (clear j p.0 q.1) q.0 u.has);
}

-- Assumes nothing.
