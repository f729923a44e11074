-- `nearer` meets its contract: the square of a number below 2 ^ 25 leaves room for a sum.
use Prim.Native.Nat.{◌*◌, ◌≤◌}
use native.Mathlib.Nat.{mul-le-mul, le_of_lt}
use native.Mathlib.Omega.{arith}
use Rattle.roots.proofs.by_table.nearer.Goals as goal

pub overflow_add-mul : goal.overflow_add-mul
overflow_add-mul c =
    let square : c.args.g * c.args.g ≤ 1125899906842624 = mul-le-mul (le_of_lt c.requires) (le_of_lt c.requires) in
    record { fits = omega arith }
