use mathlib.Core.Path.{◌≡◌, refl, sym, ◌∙◌}
use Prim.Native.Nat.{◌+◌, ◌*◌}
use native.Mathlib.Omega.{arith}
use Rattle.trace_put.proofs.Puts.{put_more, put_end}
use Rattle.trace_put.proofs.put_numbers.Goals as goal

pub loop-i-init : goal.loop-i-init
loop-i-init c = let z : c.args.from + 0 ≡ c.args.from = omega arith in (refl, rw z)

pub loop-i-preserved : goal.loop-i-preserved
loop-i-preserved c =
    let a = c.args in
    let v = c.loop-i in
    let p = c.put_number in (
      omega (arith, p.auto.bytes),
      put_more (a.numbers.now) v.bytes p.new.bytes a.from v.i 0 _ (omega (arith)) refl p.ensures ∙ v.invariant.1,
    )

pub returns : goal.returns
returns c =
    let a = c.args in
    let v = c.loop-i in
    sym (put_end (a.numbers.now) v.bytes (4 * (a.from + v.i)) v.i (omega (arith))) ∙ v.invariant.1
