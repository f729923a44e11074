-- The squares of whole fours: the first m are those asked for.
use mathlib.Core.Path.{◌∙◌}
use native.Mathlib.Omega.{arith}
use Rattle.shade.specs.Shade.{Holds}
use Rattle.blocks.proofs.Blocks.{passed, as_long}
use Rattle.blocks.proofs.squares_at.Goals as goal

pub squares-requires : goal.squares-requires
squares-requires c = (omega arith, c.requires.1, omega arith)

pub returns : goal.returns
unfolding Holds
returns c =
    let A = c.args in
    let l = c.fours-l.ensures in
    let p = c.squares.ensures in
    record { v_len = as_long _ _ _ _ p ∙ c.requires.1; holds = λ k h. passed _ _ _ _ k (omega (arith, c.requires.1)) (omega arith) p ∙ rw c.float_of.ensures }
