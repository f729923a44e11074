-- `write_steps::put_list` meets its contract: the count, the starts, the adjustment and the splines, one after the other.
use mathlib.Core.Path.{refl, ap, ◌∙◌}
use Prim.Native.Nat.{◌+◌, ◌-◌}
use native.Mathlib.Omega.{arith}
use lib.ListN.{length, set, length-set}
use mir.Syntax.{w32}
use mir.Facts.{to_z-of_z}
use Rattle.list.specs.List.{pack_signed}
use Rattle.write_steps.proofs.Stores.{list_stored}
use Rattle.write_steps.proofs.put_list.Goals as goal

pub put_starts-requires : goal.put_starts-requires
put_starts-requires c =
    let a = c.args.description.now in
    let h = c.requires in
    let l = length-set c.args.list.now 0 (length a.counts.now - 1) in
    (omega (arith, h.pairs), omega (arith, h.pairs, h.some), omega (arith, h.pairs, h.fits), h.fit)

pub bounds-list-after : goal.bounds-list-after
bounds-list-after c =
    let a = c.args.description.now in
    let h = c.requires in
    omega (arith, h.pairs, h.fits, c.put_starts.auto.list, length-set c.args.list.now 0 (length a.counts.now - 1))

pub put_splines-requires : goal.put_splines-requires
put_splines-requires c =
    let a = c.args.description.now in
    let h = c.requires in
    let o = c.put_starts.new.list in (
      h.points,
      h.rows,
      omega (
        arith,
        h.pairs,
        h.fits,
        c.put_starts.auto.list,
        length-set c.args.list.now 0 (length a.counts.now - 1),
        length-set o (length a.starts.now + 1) c.pack_signed.result,
      ),
    )

pub returns : goal.returns
returns c =
    let a = c.args.description.now in
    let h = c.requires in
    let n = length a.counts.now - 1 in
    let o = c.put_starts in
    let v = c.pack_signed in
    let after = length a.starts.now + 1 in
    let z = to_z-of_z {w = w32} {z = c.args.adjustment} c.ranges.adjustment in
    list_stored a.counts.now a.starts.now a.deltas.now a.coefficients.now c.args.adjustment h.pairs
    c.args.list.now (set c.args.list.now 0 n) o.new.list (set o.new.list after v.result) c.put_splines.new.list
    v.result after refl refl o.ensures (v.ensures ∙ ap pack_signed z) refl c.put_splines.ensures
