use mathlib.Core.Path.{◌≡◌, refl, sym, ap, ◌∙◌}
use mathlib.Core.List.{map}
use Prim.Native.Nat.{◌+◌, ◌*◌}
use native.Mathlib.Omega.{arith}
use lib.ListN.{length-map}
use lib.IntN.{pos}
use lib.ListN.{get_or}
use mir.Syntax.{w32}
use mir.Facts.{to_z-of_z}
use Rattle.little.specs.Little.{unsigned_of}
use Rattle.trace_put.proofs.Puts.{put_more, put_end, map_at}
use Rattle.trace_put.proofs.put_signed.Goals as goal

pub loop-i-init : goal.loop-i-init
loop-i-init c = let z : c.args.from + 0 ≡ c.args.from = omega arith in (refl, rw z)

pub loop-i-preserved : goal.loop-i-preserved
loop-i-preserved c =
    let a = c.args in
    let v = c.loop-i in
    let p = c.put_number in
    let u = c.unsigned in
    let z = to_z-of_z {w = w32} {z = get_or a.numbers.now v.i (pos 0)} (record { sfits = c.number-1.given }) in (
      omega (arith, p.auto.bytes),
      put_more (map unsigned_of a.numbers.now) v.bytes p.new.bytes a.from v.i (unsigned_of (pos 0)) _ (omega (arith, length-map a.numbers.now unsigned_of)) (map_at unsigned_of a.numbers.now (pos 0) v.i _ (u.ensures ∙ ap unsigned_of z)) p.ensures ∙ v.invariant.1,
    )

pub returns : goal.returns
returns c =
    let a = c.args in
    let v = c.loop-i in
    sym (put_end (map unsigned_of a.numbers.now) v.bytes (4 * (a.from + v.i)) v.i (omega (arith, length-map a.numbers.now unsigned_of))) ∙ v.invariant.1
