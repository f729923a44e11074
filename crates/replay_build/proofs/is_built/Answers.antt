-- The image and the rooms are those of the case.
use mathlib.Core.Path.{refl, ◌∙◌}
use mir.Syntax.{w32}
use mir.Facts.{to_z-of_z}
use Rattle.shape.specs.Description.{description_in}
use Rattle.replay_build.proofs.Building.{image_is, built_agrees}
use Rattle.replay_build.proofs.is_built.Goals as goal

pub returns : goal.returns
returns c =
    let A = c.args in
    let input = A.input.now in
    let word = c.signed_word-adjustment in
    λ e. built_agrees input A.output.now (description_in A.description.now) c.build-answer.ensures (image_is input A.output.now (to_z-of_z {w = w32} {z = word.result} (record { sfits = word.type_inv }) ∙ word.ensures) c.float-y_to_x.ensures c.float-y_to_b.ensures) refl (c.is_answer.ensures e)
