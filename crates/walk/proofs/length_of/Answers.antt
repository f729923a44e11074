-- `walk::length_of`: the count less two is a whole number below 2^23, exact in f32.
use mathlib.Core.Path.{◌≡◌}
use Prim.Native.Nat.{ℕ, ◌-◌, ◌≤◌}
use native.Mathlib.Omega.{arith}
use borrow.Author.Tests.{le-ltb}
use lib.Dec.{le→leb}
use lib.IntN.{pos, ◌-ℤ◌}
use lib.Ieee.{in_float}
use Rattle.walk.specs.Walk.{walk_length}
use Rattle.walk.proofs.length_of.Goals as goal

less_two : (n : ℕ) → 2 ≤ n → pos n -ℤ pos 2 ≡ pos (n - 2)
less_two n h = rw (le-ltb n 2 h)

pub int_to_float-result : goal.int_to_float-result
unfolding in_float
int_to_float-result c = le→leb (c.args.n - 2) 16777216 (omega arith)

pub returns : goal.returns
unfolding walk_length
returns c = rw (less_two c.args.n (omega arith))
