use mathlib.Core.Path.{refl, sym, ap, ◌∙◌}
use Prim.Native.Nat.{zero-le}
use native.Mathlib.Nat.{le_of_lt}
use native.Mathlib.Omega.{arith}
use lib.ListN.{length}
use Rattle.shade.proofs.Edits.{length_edit, edit_none, edit_all}
use Rattle.blocks.proofs.Blocks.{part_long, block_turn}
use Rattle.blocks.proofs.add_segment.Goals as goal

pub float_of-requires : goal.float_of-requires
float_of-requires c = omega (arith, c.requires.3)

pub loop-a-init : goal.loop-a-init
loop-a-init c =
    (zero-le, refl, c.requires.2, refl, c.requires.0, c.requires.1, rw c.float_of.ensures, edit_none _ _, edit_none _ _, edit_none _ _)

pub block_end-e-requires : goal.block_end-e-requires
block_end-e-requires c = c.loop-a-test.true

pub overflow_cast-at : goal.overflow_cast-at
overflow_cast-at c =
    let l = c.loop-a in
    omega (arith, l.invariant.0, l.invariant.2)

pub overflow_add-at : goal.overflow_add-at
overflow_add-at c =
    let l = c.loop-a in
    omega (arith, l.invariant.0, l.invariant.2)

pub offset_bounds-r0-a : goal.offset_bounds-r0-a
offset_bounds-r0-a c =
    let l = c.loop-a in
    omega (arith, l.invariant.0, l.invariant.2)

pub slice_bounds-block-count : goal.slice_bounds-block-count
slice_bounds-block-count c = le_of_lt c.block_end-e.ensures.0

pub slice_bounds-block-start : goal.slice_bounds-block-start
slice_bounds-block-start c = le_of_lt c.block_end-e.ensures.0

pub slice_bounds-block-end : goal.slice_bounds-block-end
slice_bounds-block-end c = omega (arith, c.block_end-e.ensures.1, c.loop-a.invariant.3)

pub offset_bounds-r1-a : goal.offset_bounds-r1-a
offset_bounds-r1-a c =
    let l = c.loop-a in
    omega (arith, l.invariant.0, l.invariant.2)

pub slice_bounds-block-count-in-loop-a : goal.slice_bounds-block-count-in-loop-a
slice_bounds-block-count-in-loop-a c = le_of_lt c.block_end-e.ensures.0

pub slice_bounds-block-start-in-loop-a : goal.slice_bounds-block-start-in-loop-a
slice_bounds-block-start-in-loop-a c = le_of_lt c.block_end-e.ensures.0

pub slice_bounds-block-end-in-loop-a : goal.slice_bounds-block-end-in-loop-a
slice_bounds-block-end-in-loop-a c = omega (arith, c.block_end-e.ensures.1, c.loop-a.invariant.4)

pub offset_bounds-r2-a : goal.offset_bounds-r2-a
offset_bounds-r2-a c =
    let l = c.loop-a in
    omega (arith, l.invariant.0, l.invariant.2)

pub slice_bounds-block-count-in-loop-a-2 : goal.slice_bounds-block-count-in-loop-a-2
slice_bounds-block-count-in-loop-a-2 c = le_of_lt c.block_end-e.ensures.0

pub slice_bounds-block-start-in-loop-a-2 : goal.slice_bounds-block-start-in-loop-a-2
slice_bounds-block-start-in-loop-a-2 c = le_of_lt c.block_end-e.ensures.0

pub slice_bounds-block-end-in-loop-a-2 : goal.slice_bounds-block-end-in-loop-a-2
slice_bounds-block-end-in-loop-a-2 c = omega (arith, c.block_end-e.ensures.1, c.loop-a.invariant.5)

pub block-requires : goal.block-requires
block-requires c =
    let l = c.loop-a in
    let b = c.block_end-e in
    let q0 = part_long l.r0 l.a b.result (le_of_lt b.ensures.0) (omega (arith, b.ensures.1, l.invariant.3)) in
    let q1 = part_long l.r1 l.a b.result (le_of_lt b.ensures.0) (omega (arith, b.ensures.1, l.invariant.4)) in
    let q2 = part_long l.r2 l.a b.result (le_of_lt b.ensures.0) (omega (arith, b.ensures.1, l.invariant.5)) in
    (omega (arith, q0, b.ensures.2), q1 ∙ sym q0, q2 ∙ sym q0, omega (arith, q0, b.ensures.0, b.ensures.1, l.invariant.2))

pub loop-a-smaller : goal.loop-a-smaller
loop-a-smaller c =
    let b = c.block_end-e in
    omega (arith, b.ensures.0, b.ensures.1)

pub loop-a-preserved : goal.loop-a-preserved
loop-a-preserved c =
    let A = c.args in
    let l = c.loop-a in
    let b = c.block_end-e in
    let g = c.block.ensures in
    let h = le_of_lt b.ensures.0 in
    let t0 = block_turn A.segment A.y A.x 0 _ l.a b.result _ A.r0.now l.r0 _ l.invariant.6 refl h b.ensures.1 l.invariant.7 g.r0_after in
    let t1 = block_turn A.segment A.y A.x 1 _ l.a b.result _ A.r1.now l.r1 _ l.invariant.6 refl h (omega (arith, b.ensures.1, c.requires.0)) l.invariant.8 g.r1_after in
    let t2 = block_turn A.segment A.y A.x 2 _ l.a b.result _ A.r2.now l.r2 _ l.invariant.6 refl h (omega (arith, b.ensures.1, c.requires.1)) l.invariant.9 g.r2_after in (
      b.ensures.1,
      refl,
      l.invariant.2,
      ap length t0 ∙ length_edit _ _,
      ap length t1 ∙ length_edit _ _ ∙ c.requires.0,
      ap length t2 ∙ length_edit _ _ ∙ c.requires.1,
      l.invariant.6,
      t0,
      t1,
      t2,
    )

pub returns : goal.returns
returns c =
    let l = c.loop-a in
    let h = c.loop-a-test.false in
    record { r0_after = l.invariant.7 ∙ edit_all _ _ _ h; r1_after = l.invariant.8 ∙ edit_all _ _ _ (omega (arith, h, c.requires.0)); r2_after = l.invariant.9 ∙ edit_all _ _ _ (omega (arith, h, c.requires.1)) }
