-- What IEEE 754 says of the numbers, all of it.
use Rattle.ieee754.specs.Ieee754.{Ieee754}
use Rattle.ieee754.proofs.Nearness.{square_root, whole_root, length_root}
use Rattle.ieee754.proofs.OneNearest.{one_nearest}
use Rattle.ieee754.proofs.WholeParts.{whole_parts}
use Rattle.ieee754.proofs.Conversions.{conversions}

pub ieee754 : Ieee754
ieee754 = record { one = one_nearest; roots = square_root; whole_roots = whole_root; lengths = length_root; parts = whole_parts; conversions = conversions }

-- Assumes nothing.
