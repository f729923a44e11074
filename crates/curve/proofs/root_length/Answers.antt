-- `curve::root_length`: both numbers are i32 as they stand, and the calls promise what the definition says.
use mathlib.Core.Path.{ap, ◌∙◌}
use native.Mathlib.Omega.{arith}
use mir.Syntax.{w32}
use mir.Facts.{to_z-of_z}
use lib.Ieee.{binary32}
use Rattle.roots.specs.Root.{sqrt_of}
use Rattle.curve.specs.Turns.{root_length}
use Rattle.curve.proofs.root_length.Goals as goal

pub returns : goal.returns
unfolding root_length
returns c =
    let p = to_z-of_z {w = w32} {z = c.args.delta.x} (record { sfits = omega arith }) in
    let q = to_z-of_z {w = w32} {z = c.args.delta.y} (record { sfits = omega arith }) in
    c.root.ensures ∙ ap (sqrt_of binary32) (rw (p, q) at c.length.ensures)
