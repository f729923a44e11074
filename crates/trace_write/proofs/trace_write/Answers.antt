-- `trace_write` meets its contract: a description that is judged by the checks of version 1 is written behind eight numbers.
use mathlib.Core.Path.{sym, ◌∙◌}
use mir.Syntax.{w32}
use mir.Facts.{to_z-of_z}
use native.Mathlib.Omega.{arith}
use Rattle.shape.specs.Description.{description_in}
use Rattle.trace.specs.Write.{checks_in, write_trace_of}
use Rattle.trace_write.proofs.trace_write.Goals as goal

pub write_judged-requires : goal.write_judged-requires
write_judged-requires c = (omega arith, λ e. sym c.judge-found.ensures ∙ e)

pub returns : goal.returns
unfolding write_trace_of
returns c =
    let z = to_z-of_z {w = w32} {z = c.args.adjustment} c.ranges.adjustment in
    rw z at (c.write_judged.ensures (checks_in 8 (description_in c.args.description.now)) c.judge-found.ensures)
