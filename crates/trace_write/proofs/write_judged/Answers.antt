-- `write_judged` meets its contract: the bytes are cleared before what was found is looked at, and the file is put where nothing was.
use mathlib.Core.Path.{◌≡◌, refl, sym, ap, ◌∙◌}
use mathlib.Core.List.{[]}
use Prim.Native.Nat.{ℕ, ◌+◌}
use native.Mathlib.Omega.{arith}
use mir.Syntax.{w32}
use mir.Facts.{to_z-of_z}
use lib.ListN.{length}
use Rattle.std.specs.Prelude.{Err}
use Rattle.codes.proofs.Refusals.{passed_on}
use Rattle.write_judge.specs.Verdict.{Verdict, Fine}
use Rattle.shape.specs.Shape.{points_of}
use Rattle.shape.specs.Description.{Description, description_in}
use Rattle.writer.specs.Write.{first_fault, leaves}
use Rattle.writer.specs.WriteAnswer.{WriteAnswer}
use Rattle.trace.specs.Trace.{header_of}
use Rattle.trace.specs.Write.{checks_in}
use Rattle.trace_put.proofs.Puts.{put_behind}
use Rattle.trace_write.specs.Steps.{layout_with}
use Rattle.trace_write.proofs.Puts.{Judged, file_put, judged, size_is, half_is, long_with, answer_fault, answer_room, answer_done}
use Rattle.trace_write.proofs.write_judged.Goals as goal

-- the description was judged where nothing was found
good : (h : ℕ) (d : Description) (found : Verdict) → (found ≡ Fine → first_fault (checks_in h d) ≡ Fine) → found ≡ Fine → Judged h d.counts d.starts d.deltas d.coefficients
good h d found f e = judged h d.counts d.starts d.deltas d.coefficients (f e)

pub overflow_mul-size : goal.overflow_mul-size
overflow_mul-size c =
    let j = good (8 + length c.args.more.now) (description_in c.args.description.now) c.args.found c.requires.1 c.in_ok-found.was in
    record { fits = omega (arith, j.few, j.fewer, j.points) }

pub overflow_add-size : goal.overflow_add-size
overflow_add-size c =
    let j = good (8 + length c.args.more.now) (description_in c.args.description.now) c.args.found c.requires.1 c.in_ok-found.was in
    record { fits = omega (arith, j.few, j.fewer, j.points) }

pub overflow_add-size-2 : goal.overflow_add-size-2
overflow_add-size-2 c =
    let j = good (8 + length c.args.more.now) (description_in c.args.description.now) c.args.found c.requires.1 c.in_ok-found.was in
    record { fits = omega (arith, j.few, j.fewer, j.points, c.requires.0) }

pub overflow_mul-size-3 : goal.overflow_mul-size-3
overflow_mul-size-3 c =
    let j = good (8 + length c.args.more.now) (description_in c.args.description.now) c.args.found c.requires.1 c.in_ok-found.was in
    record { fits = omega (arith, j.few, j.fewer, j.points, c.requires.0) }

pub overflow_cast-s : goal.overflow_cast-s
overflow_cast-s c =
    let j = good (8 + length c.args.more.now) (description_in c.args.description.now) c.args.found c.requires.1 c.in_ok-found.was in
    record { fits = omega (arith, j.few, j.fewer, j.points) }

pub overflow_cast-p : goal.overflow_cast-p
overflow_cast-p c =
    let j = good (8 + length c.args.more.now) (description_in c.args.description.now) c.args.found c.requires.1 c.in_ok-found.was in
    record { fits = omega (arith, j.few, j.fewer, j.points) }

pub put_header-requires : goal.put_header-requires
put_header-requires c =
    let d = description_in c.args.description.now in
    let h = 8 + length c.args.more.now in
    let j = good h d c.args.found c.requires.1 c.in_ok-found.was in
    (omega (arith, c.if-bytes-size.false), omega (arith, j.offsets, half_is h d.counts d.starts d.deltas d.coefficients j))

pub put_numbers-requires : goal.put_numbers-requires
put_numbers-requires c = omega (arith, c.if-bytes-size.false, c.put_header.auto.bytes)

pub put_parts-requires : goal.put_parts-requires
put_parts-requires c =
    let d = description_in c.args.description.now in
    let h = 8 + length c.args.more.now in
    let j = good h d c.args.found c.requires.1 c.in_ok-found.was in
    let room = c.if-bytes-size.false in
    record {
      short = omega (arith, c.requires.0);
      few = j.few;
      fewer = j.fewer;
      offsets = j.offsets;
      pairs = j.pairs;
      points = j.points;
      rows = j.rows;
      fit = j.fit;
      held = omega (arith, room, size_is h d.counts d.starts d.deltas d.coefficients j, c.put_header.auto.bytes, c.put_numbers.auto.bytes);
    }

pub returns-in_err-found : goal.returns-in_err-found
returns-in_err-found c = λ checks is.
    let a = c.args in
    let r = c.in_err-found.field-0.0 in
    ap (λ (o : WriteAnswer). leaves o c.clear.new.cells) (passed_on _ _ (Err r) c.from_residual.ensures.1 refl)
    ∙ answer_fault a.version a.more.now (description_in a.description.now) a.adjustment checks (length a.bytes.now) r.0 r.1 c.clear.new.cells c.clear.ensures (sym is ∙ c.in_err-found.was)

pub returns-then-bytes-size : goal.returns-then-bytes-size
returns-then-bytes-size c = λ checks is.
    let a = c.args in
    let d = description_in a.description.now in
    answer_room a.version a.more.now d a.adjustment checks (length a.bytes.now) (sym is ∙ c.in_ok-found.was) (good (8 + length a.more.now) d a.found c.requires.1 c.in_ok-found.was) c.clear.new.cells c.clear.ensures c.if-bytes-size.true

pub returns : goal.returns
returns c = λ checks is.
    let a = c.args in
    let d = description_in a.description.now in
    let h = 8 + length a.more.now in
    let l = layout_with a.version a.more.now in
    let j = good h d c.args.found c.requires.1 c.in_ok-found.was in
    let z = to_z-of_z {w = w32} {z = a.adjustment} c.ranges.adjustment in
    let first = rw (half_is h d.counts d.starts d.deltas d.coefficients j, z) at c.put_header.ensures in
    let header = put_behind c.clear.new.cells c.put_header.new.bytes c.put_numbers.new.bytes 0 8 (header_of l [] (length d.counts) (points_of d.counts) a.adjustment) a.more.now first c.put_numbers.ensures refl in
    let put = file_put l a.more.now d.counts d.starts d.deltas d.coefficients a.adjustment (long_with a.version a.more.now (length d.counts) (points_of d.counts) a.adjustment) c.clear.new.cells c.put_numbers.new.bytes c.put_parts.new.bytes header c.put_parts.ensures in
    answer_done a.version a.more.now d a.adjustment checks (length a.bytes.now) (sym is ∙ c.in_ok-found.was) j c.clear.new.cells _ _ c.clear.ensures refl c.if-bytes-size.false put
