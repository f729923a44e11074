-- The digits, moved to an even place, have a root of 24 digits; the product with the power of two is exact.
use native.Mathlib.Nat.{lt_of_lt_of_le}
use native.Mathlib.Omega.{arith}
use lib.Dec.{lit≤}
use lib.Ieee.{binary32}
use Rattle.numbers.proofs.Units.{castable}
use Rattle.roots.proofs.Laid.{z_lo, moved_lt, root_le, w_hi, rooted}
use Rattle.roots.proofs.root_above.Goals as goal

pub overflow_sub-t : goal.overflow_sub-t
overflow_sub-t c = omega (arith, z_lo _ _ _ c.split_f32-p.ensures)

pub nearest_root-q-requires : goal.nearest_root-q-requires
nearest_root-q-requires c = moved_lt _ _ _ c.split_f32-p.ensures

pub int_to_float-result : goal.int_to_float-result
int_to_float-result c = castable binary32 _ (root_le _ _ _ c.split_f32-p.ensures _ c.nearest_root-q.ensures)

pub scale-requires : goal.scale-requires
scale-requires c = lt_of_lt_of_le (w_hi _ _ _ c.split_f32-p.ensures) (lit≤ tt)

pub returns : goal.returns
returns c = rooted _ _ _ c.split_f32-p.ensures _ _ c.nearest_root-q.ensures c.requires c.scale.ensures
