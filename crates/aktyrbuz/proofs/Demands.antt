-- The demands hold: each is a theorem of the layers at the equation that a contract is, or is read off that equation.
use mathlib.Core.Path.{◌≡◌, sym, ap, subst, ◌∙◌}
use mathlib.Core.List.{List, ◌++◌, [], ◌∷◌}
use Prim.Native.Nat.{ℕ, ◌≤◌}
use native.Mathlib.Omega.{arith}
use lib.Dec.{ltb}
use lib.IntN.{ℤ}
use lib.ListN.{length, replicate}
use lib.Ieee.{Float}
use Rattle.codes.specs.declared.Code.{Code}
use Rattle.codes.specs.declared.Code.TheVariants.{Room}
use Rattle.list.specs.List.{limit_of}
use Rattle.reader.proofs.Promises.{refused_exactly, given_exactly}
use Rattle.writer.specs.Write.{WriteOutcome, first_fault, content_checks, check, values_of, outcome, write_of}
use Rattle.write_judge.specs.Verdict.{Verdict}
use Rattle.write_judge.specs.Verdict.{Fine, Fault}
use Rattle.writer.specs.WriteAnswer.{Refused}
use Rattle.roundtrip.proofs.RoundTrip.{written_then_read, read_then_written}
use Rattle.desks.specs.Desks.{Sight}
use Rattle.segments.specs.declared.Segment.{Segment}
use Rattle.shade.specs.Edit.{edit}
use Rattle.draw.specs.Draw as drawing
use Rattle.draw.specs.Image.{most_pairs}
use Rattle.hull.specs.Reach as reaching
use Rattle.draw.specs.DrawAnswer.{DrawAnswer}
use Rattle.draw.specs.DrawAnswer as DrawAnswer
use Rattle.hull.specs.ReachAnswer.{ReachAnswer}
use Rattle.hull.specs.ReachAnswer as ReachAnswer
use Rattle.checks.specs.Verdict.{Verdict as Judged}
use Rattle.checks.specs.Verdict as judged
use Rattle.table.specs.Table as building
use Rattle.table.proofs.Users as building-laws
use Rattle.draw.proofs.Refusals as refusals
use Rattle.draw.proofs.Alike.{drawn_alike}
use Rattle.hull.proofs.Refusals as reach-refusals
use Rattle.hull.proofs.Alike.{reached_alike}
use Rattle.draw.proofs.Keeps.{keeps_cells, keeps_lengths}
use Rattle.picture.specs.Picture.{pixel_of, row_pairs, image_pairs, RowPicture}
use Rattle.picture.specs.Sights.{not_hidden}
use Rattle.picture.proofs.Sights.{kept_not_hidden}
use Rattle.picture.proofs.Tables.{built_table}
use Rattle.picture.proofs.Keeping.{kept_lists, draw_fine, reach_fine}
use Rattle.picture.proofs.Pictures as pictures
use Rattle.picture.proofs.Makes.{built_are}
use Rattle.ieee754.proofs.Ieee754.{ieee754}
use Rattle.segments.proofs.Expressions.{as_spline_rs}
use Rattle.dequantize.specs.Judge.{Description}
use Rattle.table.proofs.Segments as making
use Rattle.build_answer.specs.BuildAnswer.{BuildAnswer}
use Rattle.build_answer.specs.BuildAnswer as BuildAnswer
use Rattle.aktyrbuz.specs.Demands.{ReadsAsSplineRs, WritesTheList, WrittenIsRead, ReadIsWritten, BuildsAsSplineRs, BuildsTheTable, EnoughRoomIsDone, NumbersByIeee754, DrawsAsSplineRs, ReachesByTheRule, LogsByItsSteps, RefusedLeavesZero, RefusedDrawsNothing, BuildCodes, DrawCodes, ReachCodes, CodesExactly, BuiltIsDrawn, OnceAscending, OtherRowsDontMatter, RowInParts, ImageInParts, KeepsOtherCells, RowUpdates, ImageUpdates, UpdatesSum, NothingStale, OneOutcome}
use Rattle.aktyrbuz.specs.Calls.{BuildDone}
use Rattle.aktyrbuz.proofs.ListCodes.{read_codes, write_codes}
use Rattle.aktyrbuz.proofs.Calls.{read_equation, write_equation, write_floats, build_equation, draw_equation, reach_equation, ln_equation, told_by, build_told_by, reach_told_by, built_by, kept_are, row_by, image_by}

-- ---- the same numbers

pub reads_as_spline_rs : ReadsAsSplineRs
reads_as_spline_rs = read_equation

pub writes_the_list : WritesTheList
writes_the_list = write_equation

pub written_is_read : WrittenIsRead
written_is_read ns ss ds cs a configured pixels room o n w done rooms enough q r =
    written_then_read ns ss ds cs a configured pixels room o n (write_floats ns ss ds cs a configured pixels room o w) (write_equation ns ss ds cs a configured pixels room o w) done rooms enough q
    (read_equation _ configured pixels rooms q r)

pub read_is_written : ReadIsWritten
read_is_written configured pixels rooms l q s p a r done room fits o w =
    read_then_written configured pixels rooms l q s p a (read_equation l configured pixels rooms q r) done room fits o
    (write_equation _ _ _ _ a configured pixels room o w)

pub builds_as_spline_rs : BuildsAsSplineRs
builds_as_spline_rs = build_equation

done_answer : {d : Description} {i : building.Setting} {r : building.BuildRooms} {o : building.BuildOutcome} {s e estimate : ℕ} (b : BuildDone d i r o s e estimate)
    → (building.build_of d i r).answer ≡ BuildAnswer.Done s e estimate b.faint
done_answer {d} {i} {r} {o} b = sym (ap (λ (u : building.BuildOutcome). u.answer) (build_equation d i r o b.called)) ∙ b.done

pub builds_the_table : BuildsTheTable
builds_the_table = record {
  made = λ d i r o s e estimate b. making.build_makes d i r s e estimate b.faint (done_answer b);
  one = making.one_list;
  table = λ d i r o s e estimate b segments m. rw (built_are (built_by b) segments m) (built_table (built_by b));
}

pub enough_room_is_done : EnoughRoomIsDone
enough_room_is_done = record {
  enough = λ d i r segments owners o n b. build_equation d i r o b ∙ making.enough_is_done d i r segments owners n;
  more = λ d i r r' o o' s e estimate l b c.
      let same = making.more_room_never_refuses d i r r' s e estimate b.faint l (done_answer b) in
      rw (build_equation d i r o b.called, build_equation d i r' o' c) same;
}

pub numbers_by_ieee754 : NumbersByIeee754
numbers_by_ieee754 = record { numbers = ieee754; ranges = as_spline_rs }

pub draws_as_spline_rs : DrawsAsSplineRs
draws_as_spline_rs = draw_equation

pub reaches_by_the_rule : ReachesByTheRule
reaches_by_the_rule = reach_equation

pub logs_by_its_steps : LogsByItsSteps
logs_by_its_steps = ln_equation

-- ---- refusals

write_zeros : (ns : List ℕ) (ss : List Float) (ds cs : List ℤ) (a : ℤ) (configured pixels room : ℕ) (o : WriteOutcome) (c : Code) (p : ℕ)
    → o ≡ write_of ns ss ds cs a configured pixels room → o.answer ≡ Refused c p → o.list ≡ replicate room 0
unfolding write_of
write_zeros ns ss ds cs a configured pixels room o c p w e =
    go (first_fault (content_checks ns ss ds cs (limit_of configured pixels) ++ check (ltb room (length (values_of ns ss ds cs a))) Room room ∷ []))
    (sym (ap (λ (u : WriteOutcome). u.answer) w) ∙ e) (ap (λ (u : WriteOutcome). u.list) w)
  where
    go : (v : Verdict) → (outcome room (values_of ns ss ds cs a) v).answer ≡ Refused c p → o.list ≡ (outcome room (values_of ns ss ds cs a) v).list
        → o.list ≡ replicate room 0
    go Fine f l = let z : ◌≡◌ {A = ℕ} 0 1 = cc in absurd (omega arith)
    go (Fault k q) f l = l

pub refused_leaves_zero : RefusedLeavesZero
unfolding building.refused_with
refused_leaves_zero = record {
  read = λ l configured pixels rooms o c p r e.
      let is = read_equation l configured pixels rooms o r in
      let z = given_exactly configured pixels rooms l o is c p (refused_exactly configured pixels rooms l o is c p e) in
      record { counts = z.counts; starts = z.starts; deltas = z.deltas; coefficients = z.coefficients };
  write = λ ns ss ds cs a configured pixels room o c p w e. write_zeros ns ss ds cs a configured pixels room o c p (write_equation ns ss ds cs a configured pixels room o w) e;
  build = λ d i r o c p b e.
      let z = building-laws.refused_leaves_zero d i r o c p (build_equation d i r o b) e in
      record {
        path = ap (λ (u : building.BuildOutcome). u.path) z;
        walk = ap (λ (u : building.BuildOutcome). u.walk) z;
        segments = ap (λ (u : building.BuildOutcome). u.segments) z;
        owners = ap (λ (u : building.BuildOutcome). u.owners) z;
        starts = ap (λ (u : building.BuildOutcome). u.starts) z;
        entries = ap (λ (u : building.BuildOutcome). u.entries) z;
      };
}

pub refused_draws_nothing : RefusedDrawsNothing
unfolding drawing.draw_of
refused_draws_nothing t s y x0 n a o c p d e =
    go (drawing.judge_draw t s y x0 n (length a.r0) (length a.r1) (length a.r2)) (draw_equation t s y x0 n a o d)
  where
    go : (v : Judged) → o ≡ drawing.outcome v t s y x0 n a → o.channels ≡ a
    go judged.Fine f =
        let g = sym (ap (λ (u : drawing.DrawOutcome). u.answer) f) ∙ e in
        let k : ◌≡◌ {A = ℕ} 0 1 = cc in
        absurd (omega arith)
    go (judged.Fault k) f = ap (λ (u : drawing.DrawOutcome). u.channels) f

drawn_fine : (t : drawing.Table) (s : Sight) (y x0 n : ℕ) (a : drawing.Channels) (z : drawing.DrawOutcome) → z ≡ drawing.draw_of t s y x0 n a
    → drawing.judge_draw t s y x0 n (length a.r0) (length a.r1) (length a.r2) ≡ judged.Fine → z.answer ≡ DrawAnswer.Done z.told.updates
unfolding drawing.draw_of
drawn_fine t s y x0 n a z e f = rw (e, f)

reached_fine : (t : drawing.Table) (s : Sight) (y W : ℕ) (z : reaching.ReachOutcome) → z ≡ reaching.reach_of t s y W → reaching.judge_reach_of t s y W ≡ judged.Fine
    → z.answer ≡ ReachAnswer.Done z.told.first z.told.past
unfolding reaching.reach_of
reached_fine t s y W z e f = rw (e, f)

pub draw_codes : DrawCodes
draw_codes = record {
  exactly = λ t s y x0 n a o d c p.
      let is = ap (λ (u : drawing.DrawOutcome). u.answer) (draw_equation t s y x0 n a o d) in
      let when = refusals.draw_refused_exactly t s y x0 n a c p in
      (λ e. when.0 (sym is ∙ e), λ l. is ∙ when.1 l);
  told = λ t s y x0 n a o d c p e.
      let is = ap (λ (u : drawing.DrawOutcome). u.answer) (draw_equation t s y x0 n a o d) in
      let place : p ≡ 0 = refusals.draw_place t s y x0 n a ((refusals.draw_refused_exactly t s y x0 n a c p).0 (sym is ∙ e)) in
      ap (λ (u : drawing.DrawOutcome). u.told) (told_by t s y x0 n a o d) ∙ ap drawing.told_of (e ∙ ap (DrawAnswer.Refused c) place);
}

pub reach_codes : ReachCodes
reach_codes = record {
  exactly = λ t s y W o d c p.
      let is = ap (λ (u : reaching.ReachOutcome). u.answer) (reach_equation t s y W o d) in
      let when = reach-refusals.reach_refused_exactly t s y W c p in
      (λ e. when.0 (sym is ∙ e), λ l. is ∙ when.1 l);
  told = λ t s y W o d c p e.
      let is = ap (λ (u : reaching.ReachOutcome). u.answer) (reach_equation t s y W o d) in
      let place : p ≡ 0 = reach-refusals.reach_place t s y W ((reach-refusals.reach_refused_exactly t s y W c p).0 (sym is ∙ e)) in
      ap (λ (u : reaching.ReachOutcome). u.told) (reach_told_by t s y W o d) ∙ ap reaching.told_of (e ∙ ap (ReachAnswer.Refused c) place);
}

pub build_codes : BuildCodes
build_codes = record {
  exactly = λ d i r o b c p.
      let is = ap (λ (u : building.BuildOutcome). u.answer) (build_equation d i r o b) in
      let when = building-laws.refused_exactly d i r c p in
      (λ e. when.0 (sym is ∙ e), λ l. is ∙ when.1 l);
  told = λ d i r o b c p e. ap (λ (u : building.BuildOutcome). u.told) (build_told_by d i r o b) ∙ ap building.told_of e;
}

pub codes_exactly : CodesExactly
codes_exactly = record { read = read_codes; write = write_codes; build = build_codes; draw = draw_codes; reach = reach_codes }

pub built_is_drawn : BuiltIsDrawn
built_is_drawn = record {
  draw = λ d i segments owners t s k l y x0 n a o h f c.
      drawn_fine t s y x0 n a o (draw_equation t s y x0 n a o c)
      (draw_fine (built_by k.done) k.kept l y (omega (arith, h, k.kept.height)) x0 n (length a.r0) (length a.r1) (length a.r2) f);
  reach = λ d i segments owners t s k l y W o h w c.
      reached_fine t s y W o (reach_equation t s y W o c) (reach_fine (built_by k.done) k.kept l y (omega (arith, h, k.kept.height)) W w);
}

-- ---- tables

pub once_ascending : OnceAscending
once_ascending d i segments t k y h = kept_lists (built_by k.done) k.kept y (omega (arith, h, k.kept.height))

pub other_rows_dont_matter : OtherRowsDontMatter
other_rows_dont_matter = record {
  draw = λ t u s r y k x0 n a o q c e. draw_equation t s y x0 n a o c ∙ drawn_alike k x0 n a ∙ sym (draw_equation u r y x0 n a q e);
  reach = λ t u s r y k W o q c e. reach_equation t s y W o c ∙ reached_alike k W ∙ sym (reach_equation u r y W q e);
}

-- ---- pixels

pub row_in_parts : RowInParts
row_in_parts d i segments owners t s k l y W a w sum z =
    rw (kept_are k)
    (pictures.row_in_parts (built_by k.done) k.kept l W z.narrow y z.in_image z.widths z.cut z.parts z.order a w z.wide sum (row_by z.drawn))

pub image_in_parts : ImageInParts
image_in_parts d i segments owners t s k l W a w sum z y h =
    rw (kept_are k)
    (pictures.image_in_parts (built_by k.done) k.kept l W z.narrow z.widths z.tall z.cut z.parts z.order a w z.wide sum (image_by z.drawn) y
    (omega (arith, h, k.kept.height)))

pub keeps_other_cells : KeepsOtherCells
keeps_other_cells = record {
  cells = λ t s y x0 n a o c. keeps_cells t s y x0 n a o (draw_equation t s y x0 n a o c);
  lengths = λ t s y x0 n a o c. keeps_lengths t s y x0 n a o (draw_equation t s y x0 n a o c);
}

row_updates : RowUpdates
row_updates d i segments owners t s k l y W a w sum z =
    let exact = pictures.row_updates (built_by k.done) k.kept l W z.narrow y z.in_image z.widths z.cut z.parts z.order a w z.wide sum (row_by z.drawn) in
    let most = pictures.row_updates_most (built_by k.done) k.kept l W z.narrow y z.in_image z.widths z.cut z.parts z.order a w z.wide sum (row_by z.drawn) in
    (rw (kept_are k) exact, most)

image_updates : ImageUpdates
image_updates d i segments owners t s k l W a w sum z =
    let exact = pictures.image_updates (built_by k.done) k.kept l W z.narrow z.widths z.tall z.cut z.parts z.order a w z.wide sum (image_by z.drawn) in
    let most = pictures.image_updates_most (built_by k.done) k.kept l W z.narrow z.widths z.tall z.cut z.parts z.order a w z.wide sum (image_by z.drawn) in
    let same : sum ≡ image_pairs (not_hidden s owners segments) W 0 t.height = rw (kept_are k) exact in
    (same ∙ ap (image_pairs (not_hidden s owners segments) W 0) (sym k.kept.height), subst (λ (n : ℕ). sum ≤ most_pairs t s W 0 n) (sym k.kept.height) most)

pub updates_sum : UpdatesSum
updates_sum = record { row = row_updates; image = image_updates }

-- a picture fixes the pixels
same_picture : (own others : List Segment) (y : ℕ) (a w z : drawing.Channels) → own ≡ others → RowPicture own y a w → RowPicture others y a z → w ≡ z
same_picture own others y a w z e p q =
    same_channels w z
    (p.channel0 ∙ ap (λ (l : List Segment). edit (pixel_of 0 l y) a.r0) e ∙ sym q.channel0)
    (p.channel1 ∙ ap (λ (l : List Segment). edit (pixel_of 1 l y) a.r1) e ∙ sym q.channel1)
    (p.channel2 ∙ ap (λ (l : List Segment). edit (pixel_of 2 l y) a.r2) e ∙ sym q.channel2)
  where
    same_channels : (w z : drawing.Channels) → w.r0 ≡ z.r0 → w.r1 ≡ z.r1 → w.r2 ≡ z.r2 → w ≡ z
    same_channels w z f g h =
        ap (λ (l : List Float). drawing.three l w.r1 w.r2) f ∙ ap (λ (l : List Float). drawing.three z.r0 l w.r2) g ∙ ap (λ (l : List Float). drawing.three z.r0 z.r1 l) h

pub nothing_stale : NothingStale
nothing_stale = record {
  row = λ d i segments owners t u s r k l m n agree y W a w z sum total p q.
      let e = kept_not_hidden l n agree in (
        same_picture _ _ y a w z e (row_in_parts d i segments owners t s k l y W a w sum p) (row_in_parts d i segments owners u r m n y W a z total q),
        (row_updates d i segments owners t s k l y W a w sum p).0 ∙ ap (λ (own : List Segment). row_pairs own W y) e ∙ sym (row_updates d i segments owners u r m n y W a z total q).0,
      );
  image = λ d i segments owners t u s r k l m n agree W a w z sum total p q.
      let e = kept_not_hidden l n agree in (
        λ y h. same_picture _ _ y (a y) (w y) (z y) e (image_in_parts d i segments owners t s k l W a w sum p y h) (image_in_parts d i segments owners u r m n W a z total q y h),
        (image_updates d i segments owners t s k l W a w sum p).0 ∙ ap (λ (own : List Segment). image_pairs own W 0 i.height) e ∙ sym (image_updates d i segments owners u r m n W a z total q).0,
      );
}

-- ---- an equation determines its outcome

pub one_outcome : OneOutcome
one_outcome = record {
  read = λ l configured pixels rooms o q a b. read_equation l configured pixels rooms o a ∙ sym (read_equation l configured pixels rooms q b);
  write = λ ns ss ds cs n configured pixels room o q a b.
      write_equation ns ss ds cs n configured pixels room o a ∙ sym (write_equation ns ss ds cs n configured pixels room q b);
  build = λ d i r o q a b. build_equation d i r o a ∙ sym (build_equation d i r q b);
  draw = λ t s y x0 n z o q a b. draw_equation t s y x0 n z o a ∙ sym (draw_equation t s y x0 n z q b);
  reach = λ t s y W o q a b. reach_equation t s y W o a ∙ sym (reach_equation t s y W q b);
  ln = λ x o q a b. ln_equation x o a ∙ sym (ln_equation x q b);
}

-- Assumes nothing.
