-- `length` meets its contract: the sum of the squares is exact, and `root_of_whole` takes its root.
use mathlib.Core.Path.{◌≡◌, ◌∙◌}
use Prim.Native.Nat.{◌*◌}
use lib.IntN.{nat_abs}
use mir.Syntax.{w32}
use mir.Facts.{to_z-of_z}
use Rattle.roots.specs.Length.{length_of}
use Rattle.roots.proofs.lengths.length.Goals as goal

pub returns : goal.returns
unfolding length_of
returns c =
    let p = to_z-of_z {w = w32} {z = c.args.dx} c.ranges.dx in
    let q = to_z-of_z {w = w32} {z = c.args.dy} c.ranges.dy in
    let a : c.square.result ≡ nat_abs c.args.dx * nat_abs c.args.dx = rw p at c.square.ensures.0 in
    let b : c.square-2.result ≡ nat_abs c.args.dy * nat_abs c.args.dy = rw q at c.square-2.ensures.0 in
    c.root_of_whole.ensures ∙ rw (a, b)
