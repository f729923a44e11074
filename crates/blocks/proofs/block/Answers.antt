-- The four passes are one edit of each channel.
use mathlib.Core.Path.{refl, ap, ◌∙◌}
use native.Mathlib.Omega.{arith}
use lib.ListN.{length}
use Rattle.shade.proofs.Edits.{length_edit}
use Rattle.blocks.proofs.Blocks.{four_passes}
use Rattle.blocks.proofs.block.Goals as goal

pub squares-requires : goal.squares-requires
squares-requires c = (omega arith, refl, omega arith)

pub roots-requires : goal.roots-requires
roots-requires c = (omega arith, ap length c.squares.ensures ∙ length_edit _ _)

pub intensities-requires : goal.intensities-requires
intensities-requires c = (omega arith, ap length c.roots.ensures ∙ length_edit _ _ ∙ ap length c.squares.ensures ∙ length_edit _ _)

pub returns : goal.returns
returns c =
    let a = c.args in
    let l = c.fours-l.ensures in
    let p = c.squares.ensures in
    let q = c.roots.ensures in
    let r = c.intensities.ensures in
    let t = c.add.ensures in record {
      r0_after = four_passes a.segment a.dy2 a.x 0 _ _ _ _ _ _ a.r0.now _ refl l.0 l.1 refl p q r t.r0_after;
      r1_after =
          four_passes a.segment a.dy2 a.x 1 _ _ _ _ _ _ a.r1.now _ refl l.0 l.1 (omega arith) p q r t.r1_after;
      r2_after =
          four_passes a.segment a.dy2 a.x 2 _ _ _ _ _ _ a.r2.now _ refl l.0 l.1 (omega arith) p q r t.r2_after;
    }
