-- `Point`: a pair of f32, added, subtracted and multiplied by a number, and its length. Definitions only.
use Rattle.std.specs.Prelude.{Float}
use Rattle.std.specs.Float.{binary32}
use Rattle.numbers.specs.Arith.{◌⊕◌, ◌⊖◌, ◌⊗◌}
use Rattle.roots.specs.Length.{hypot_of}
use Rattle.curve.specs.declared.Point.{Point}

abbrev pub add_point : Point → Point → Point
add_point p q = record { x = p.x ⊕ q.x; y = p.y ⊕ q.y }

abbrev pub sub_point : Point → Point → Point
sub_point p q = record { x = p.x ⊖ q.x; y = p.y ⊖ q.y }

abbrev pub mul_point : Point → Float → Point
mul_point p k = record { x = p.x ⊗ k; y = p.y ⊗ k }

-- `abs`, by `hypot`
unfoldable pub abs_point : Point → Float
abs_point p = hypot_of binary32 p.x p.y
