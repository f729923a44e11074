use mathlib.Core.Path.{◌≡◌, refl, sym, ◌∙◌}
use mathlib.Core.List.{map}
use Prim.Native.Nat.{◌+◌, ◌*◌}
use native.Mathlib.Omega.{arith}
use lib.ListN.{length-map}
use lib.Ieee.{nan}
use Rattle.codes.specs.declared.Code.TheVariants.{Coord}
use Rattle.trace.specs.Write.{misfit}
use Rattle.trace.proofs.Checks.{fine_each}
use Rattle.trace_put.specs.Steps.{start_number}
use Rattle.trace_put.proofs.Puts.{put_more, put_end, map_at}
use Rattle.trace_put.proofs.put_starts.Goals as goal

pub loop-i-init : goal.loop-i-init
loop-i-init c = let z : c.args.from + 0 ≡ c.args.from = omega arith in (refl, rw z)

pub start_number-requires : goal.start_number-requires
start_number-requires c =
    let a = c.args in
    fine_each misfit Coord a.starts.now nan a.from c.requires.1 c.loop-i.i (omega arith)

pub loop-i-preserved : goal.loop-i-preserved
loop-i-preserved c =
    let a = c.args in
    let v = c.loop-i in
    let p = c.put_number in (
      omega (arith, p.auto.bytes),
      put_more (map start_number a.starts.now) v.bytes p.new.bytes a.from v.i (start_number nan) _ (omega (arith, length-map a.starts.now start_number)) (map_at start_number a.starts.now nan v.i _ c.start_number.ensures) p.ensures ∙ v.invariant.1,
    )

pub returns : goal.returns
returns c =
    let a = c.args in
    let v = c.loop-i in
    sym (put_end (map start_number a.starts.now) v.bytes (4 * (a.from + v.i)) v.i (omega (arith, length-map a.starts.now start_number))) ∙ v.invariant.1
