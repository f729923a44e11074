-- A value rounded to a format: Rust's `as f32` of an f64. Definitions only.
use Rattle.std.specs.Prelude.{◌*◌, Float}
use Rattle.std.specs.Float.{nan, inf, fin, Format}
use Rattle.std.specs.Float.Ieee.{up, down, round}

unfoldable pub narrow : Format → Float → Float
narrow f nan = nan
narrow f (inf s) = inf s
narrow f (fin s m e) = round f s (m * up e) (down e)
