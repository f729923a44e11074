-- `aktyrbuz_build` meets its contract: what `build` leaves, and its answer told in five numbers.
use native.Mathlib.Omega.{arith}
use mir.Syntax.{w32}
use mir.Facts.{to_z-of_z}
use Rattle.aktyrbuz.proofs.Numbers.{build_exported}
use Rattle.aktyrbuz.proofs.aktyrbuz_build.Goals as goal

pub returns : goal.returns
returns c =
    let e = to_z-of_z {w = w32} {z = c.args.adjustment} (record { sfits = omega (arith, c.well_formed.1.1.1.1.0) }) in
    build_exported _ _ _ _ _ _ _ _ _ (rw e at c.build.ensures) c.tell.ensures.number c.tell.ensures.five
