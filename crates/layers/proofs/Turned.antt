-- An Option that `ok_or` has turned to a Result.
use Rattle.std.proofs.Common.{◌≡◌, ℕ, Ok, refl, ap, arith}
use Rattle.std.specs.Prelude.{Some, None}
use Rattle.std.specs.Option.{ok_or}
use Rattle.codes.specs.declared.Code.TheVariants.{Position, Room}
use Rattle.control_points.specs.Answers.{Start, At, Out}
use Rattle.control_points.specs.declared.Pair.{Pair}
use Rattle.curve.specs.Curved.{Curved}
use Rattle.layers.specs.Exported.{counted_of, counted_path}

pub was_at : (s : Start) (p : Pair) → ok_or s Position ≡ Ok p → s ≡ At p
was_at (At q) p h = let e : q ≡ p = cc in ap At e
was_at Out p h = absurd (let z : ◌≡◌ {A = ℕ} 0 1 = cc in omega arith)

pub counted_room : (a : Curved) → counted_of (ok_or a Room) ≡ counted_path a
counted_room (Some n) = refl
counted_room None = refl

-- Assumes nothing.
