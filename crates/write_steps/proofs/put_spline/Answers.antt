-- `write_steps::put_spline` meets its contract: three stores, one after the other.
use mathlib.Core.Path.{refl}
use Prim.Native.Nat.{◌+◌}
use native.Mathlib.Omega.{arith}
use lib.ListN.{length, set, length-set}
use Rattle.write_steps.proofs.Stores.{spline_stored}
use Rattle.write_steps.proofs.put_spline.Goals as goal

pub put_numbers-requires : goal.put_numbers-requires
put_numbers-requires c = simp length-set (omega arith)

pub put_numbers-requires-2 : goal.put_numbers-requires-2
put_numbers-requires-2 c =
    let a = c.args in
    omega (arith, c.put_numbers.auto.list, length-set a.list.now a.at a.n)

pub returns : goal.returns
returns c =
    let a = c.args in
    let one = c.put_numbers in
    let two = c.put_numbers-2 in
    spline_stored a.list.now (set a.list.now a.at a.n) one.new.list two.new.list a.at a.n (a.at + 1) (a.at + 1 + length a.deltas.now)
    a.deltas.now a.coefficients.now refl refl refl one.ensures two.ensures
