use mathlib.Core.Path.{◌≡◌, refl, sym, ap, ◌∙◌}
use Prim.Native.Nat.{◌+◌}
use native.Mathlib.Omega.{arith}
use lib.ListN.{get_or, length-set}
use lib.IntN.{pos}
use mir.Syntax.{w32}
use mir.Facts.{to_z-of_z}
use Rattle.list.specs.List.{pack_signed}
use Rattle.write_steps.proofs.Stores.{numbers_turn, numbers_end}
use Rattle.write_steps.proofs.put_numbers.Goals as goal

pub loop-i-init : goal.loop-i-init
loop-i-init c =
    let e : c.args.at + 0 ≡ c.args.at = omega arith in
    (refl, rw e)

pub loop-i-preserved : goal.loop-i-preserved
loop-i-preserved c =
    let a = c.args in
    let v = c.loop-i in
    let z = to_z-of_z {w = w32} {z = get_or a.numbers.now v.i (pos 0)} (record { sfits = c.number-1.given }) in
    let p : a.at + v.i + 1 ≡ a.at + (v.i + 1) = omega arith in (
      simp length-set v.invariant.0,
      rw p at (numbers_turn v.list a.numbers.now (a.at + v.i) v.i _ (omega arith) (c.pack_signed.ensures ∙ ap pack_signed z)) ∙ v.invariant.1,
    )

pub returns : goal.returns
returns c =
    let a = c.args in
    let v = c.loop-i in
    sym (numbers_end v.list a.numbers.now (a.at + v.i) v.i (omega arith)) ∙ v.invariant.1
