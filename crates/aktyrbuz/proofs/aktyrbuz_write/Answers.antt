-- `aktyrbuz_write` meets its contract: what `write` leaves, and its answer told in five numbers.
use native.Mathlib.Omega.{arith}
use mir.Syntax.{w32}
use mir.Facts.{to_z-of_z}
use Rattle.aktyrbuz.proofs.Numbers.{write_exported}
use Rattle.aktyrbuz.proofs.aktyrbuz_write.Goals as goal

pub returns : goal.returns
returns c =
    let a = c.args in
    let e = to_z-of_z {w = w32} {z = a.adjustment} (record { sfits = omega (arith, c.well_formed.1.1.1.1.0) }) in
    write_exported _ _ _ _ (rw e at c.write.ensures) c.tell.ensures.number c.tell.ensures.five
