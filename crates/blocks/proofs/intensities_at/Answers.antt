-- The intensities of whole fours: the first m are those asked for.
use native.Mathlib.Omega.{arith}
use Rattle.shade.specs.Shade.{Holds}
use Rattle.blocks.proofs.Blocks.{passed}
use Rattle.blocks.proofs.intensities_at.Goals as goal

pub intensities-requires : goal.intensities-requires
intensities-requires c = (omega arith, c.requires.1)

pub returns : goal.returns
unfolding Holds
returns c =
    let l = c.fours-l.ensures in
    λ k h. passed _ _ _ _ k (omega (arith, c.requires.1)) (omega arith) c.intensities.ensures
