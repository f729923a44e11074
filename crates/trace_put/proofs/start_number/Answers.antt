use mathlib.Core.Path.{ap, ◌∙◌}
use Rattle.writer.specs.Write.{whole_of}
use Rattle.little.specs.Little.{unsigned_of}
use native.Mathlib.Omega.{arith}
use mir.Syntax.{w32}
use mir.Facts.{to_z-of_z}
use Rattle.trace.proofs.Starts.{fit_signed, fit_small}
use Rattle.trace_put.specs.Steps.{start_number}
use Rattle.trace_put.proofs.start_number.Goals as goal

pub float_to_int-x : goal.float_to_int-x
float_to_int-x c = fit_signed c.args.x c.requires

pub returns : goal.returns
unfolding start_number
returns c =
    let x = c.args.x in
    let z = to_z-of_z {w = w32} {z = whole_of x} (record { sfits = omega (arith, fit_small x c.requires) }) in
    c.unsigned.ensures ∙ ap unsigned_of z
