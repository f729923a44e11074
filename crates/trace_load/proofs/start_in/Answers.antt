use mathlib.Core.Path.{◌∙◌}
use mir.Syntax.{w32, w64}
use mir.Facts.{to_z-of_z}
use Rattle.trace_load.specs.Steps.{start_in}
use Rattle.trace_load.proofs.Loads.{placed_small}
use Rattle.trace_load.proofs.start_in.Goals as goal

pub start_of-requires : goal.start_of-requires
start_of-requires c =
    let z = to_z-of_z {w = w32} {z = c.signed.result} (record { sfits = c.signed.type_inv }) in
    let y = to_z-of_z {w = w64} {z = c.from.result} (record { sfits = c.from.type_inv }) in
    rw (y ∙ c.from.ensures ∙ z ∙ c.signed.ensures) (placed_small c.args.number c.requires)

pub returns : goal.returns
unfolding start_in
returns c =
    let z = to_z-of_z {w = w32} {z = c.signed.result} (record { sfits = c.signed.type_inv }) in
    let y = to_z-of_z {w = w64} {z = c.from.result} (record { sfits = c.from.type_inv }) in
    c.start_of.ensures ∙ rw (y ∙ c.from.ensures ∙ z ∙ c.signed.ensures)
