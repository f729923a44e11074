-- Each number is that of its words.
use mathlib.Core.Path.{◌∙◌}
use mir.Syntax.{w32}
use mir.Facts.{to_z-of_z}
use Rattle.replay_splines.proofs.Agreeing.{given_is}
use Rattle.replay_splines.proofs.given_of.Goals as goal

pub returns : goal.returns
returns c =
    let word = c.signed_word-adjustment in
    given_is c.args.input.now (to_z-of_z {w = w32} {z = word.result} (record { sfits = word.type_inv }) ∙ word.ensures) c.float-y_to_x.ensures c.float-y_to_b.ensures c.long-limit.ensures
