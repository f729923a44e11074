use mathlib.Core.Path.{refl, ◌∙◌}
use Prim.Native.Nat.{◌<◌, ◌≤◌}
use native.Mathlib.Omega.{arith}
use lib.ListN.{length, length-set}
use Rattle.shade.specs.Shade.{shaded_by_intensity}
use Rattle.shade.proofs.Edits.{edit_none, edit_all, stored}
use Rattle.shade.proofs.add.Goals as goal

pub loop-k-init : goal.loop-k-init
loop-k-init c = (refl, c.requires.1, c.requires.2, edit_none _ _, edit_none _ _, edit_none _ _)

pub loop-k-preserved : goal.loop-k-preserved
unfolding shaded_by_intensity
loop-k-preserved c =
    let l = c.loop-k in
    let h : l.k < length c.args.r0.now = c.loop-k-test.true in (
      simp length-set l.invariant.0,
      simp length-set l.invariant.1,
      simp length-set l.invariant.2,
      stored _ _ _ l.k _ h l.invariant.3 refl,
      stored _ _ _ l.k _ (omega (arith, h, c.requires.1)) l.invariant.4 refl,
      stored _ _ _ l.k _ (omega (arith, h, c.requires.2)) l.invariant.5 refl,
    )

pub returns : goal.returns
returns c =
    let l = c.loop-k in
    let h : length c.args.r0.now ≤ l.k = omega (arith, c.loop-k-test.false) in
    record { r0_after = l.invariant.3 ∙ edit_all _ _ _ h; r1_after = l.invariant.4 ∙ edit_all _ _ _ (omega (arith, h, c.requires.1)); r2_after = l.invariant.5 ∙ edit_all _ _ _ (omega (arith, h, c.requires.2)) }
