-- `read_steps::start_of` meets its contract: the number is an f32, so the cast loses nothing.
use mir.Syntax.{w64}
use mir.Facts.{to_z-of_z}
use Rattle.list.specs.Steps.{f32_of}
use Rattle.read_steps.proofs.start_of.Goals as goal

pub returns : goal.returns
unfolding f32_of
returns c = rw (to_z-of_z {w = w64} {z = c.args.x} c.ranges.x)
