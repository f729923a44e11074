-- A reading stores no more numbers than there are cells.
use mathlib.Core.Path.{◌≡◌, ap}
use mathlib.Core.List.{List}
use Prim.Native.Nat.{ℕ, ◌≤◌}
use native.Mathlib.Omega.{arith}
use lib.ListN.{length, length-take}
use Rattle.std.specs.Prelude.{Ok}
use Rattle.text.specs.Text.{Text, all, stop, ReadAs}

pub held_within : (t : Text) (n : ℕ) (cells : List ℕ) → ReadAs t (Ok n) cells → n ≤ length cells
held_within (all xs) n cells (is, are) =
    let e : n ≡ length xs = cc in
    omega (arith, simp length-take at (ap length are))
held_within (stop why) n cells is = cc

-- Assumes nothing.
