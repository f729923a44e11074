-- `polyline_write::write_spline` meets its contract: its part of the double deltas is lent.
use mathlib.Core.Path.{◌≡◌, refl, sym}
use native.Mathlib.Omega.{arith}
use lib.ListN.{take}
use Prim.Native.Nat.{◌*◌}
use Rattle.shape.specs.Shape.{points_of}
use Rattle.polyline_write.proofs.Answers.{at-fits, part_is}
use Rattle.polyline_write.proofs.write_spline.Goals as goal

pub deltas_at-from-requires : goal.deltas_at-from-requires
deltas_at-from-requires c = (omega (arith, c.requires.there), sym c.requires.deltas)

pub overflow_mul-to : goal.overflow_mul-to
overflow_mul-to c = omega (arith, at-fits c.args.description.now.counts.now c.args.k c.requires.there, c.requires.deltas)

pub overflow_add-to : goal.overflow_add-to
overflow_add-to c = omega (arith, at-fits c.args.description.now.counts.now c.args.k c.requires.there, c.deltas_at-from.ensures, c.requires.deltas)

pub offset_bounds-description-from : goal.offset_bounds-description-from
offset_bounds-description-from c = omega (arith, at-fits c.args.description.now.counts.now c.args.k c.requires.there, c.deltas_at-from.ensures, c.requires.deltas)

pub slice_bounds-write_one-end : goal.slice_bounds-write_one-end
slice_bounds-write_one-end c = omega (arith, at-fits c.args.description.now.counts.now c.args.k c.requires.there, c.deltas_at-from.ensures, c.requires.deltas)

pub returns : goal.returns
returns c =
    let d = c.deltas_at-from in
    let from : d.result ≡ 2 * points_of (take c.args.k c.args.description.now.counts.now) = omega (arith, d.ensures) in
    rw (part_is c.args.description.now.counts.now c.args.description.now.deltas.now c.args.k _ _ _ from refl refl) at c.write_one.ensures
