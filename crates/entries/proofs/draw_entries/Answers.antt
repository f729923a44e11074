use mathlib.Core.Path.{refl, ◌∙◌}
use Prim.Native.Nat.{◌+◌, ◌-◌, ◌*◌, ◌/◌}
use native.Mathlib.Omega.{arith}
use Rattle.checks.proofs.Entries.{first_in_segments, first_seen, rest_fit}
use Rattle.entries.proofs.Entries.{starts, goes_on_by_two, total_small, at_place}
use Rattle.entries.proofs.draw_entries.Goals as goal

pub loop-k-init : goal.loop-k-init
loop-k-init c = starts _ _ _ _ _ _ _ (omega arith) c.requires.entries_fit

pub draw_two-requires : goal.draw_two-requires
draw_two-requires c =
    let l = c.loop-k in
    let f = l.invariant.fit in
    let h = c.requires.channels_fit in
    record {
      i_in_bounds = first_in_segments f (omega arith);
      i_seen = first_seen f (omega arith);
      j_in_bounds = first_in_segments (rest_fit f (omega arith)) (omega arith);
      j_seen = first_seen (rest_fit f (omega arith)) (omega arith);
      fit = record { fits0 = omega (arith, l.invariant.length0); fits1 = omega (arith, l.invariant.length1); fits2 = omega (arith, l.invariant.length2) };
    }

pub overflow_add-total : goal.overflow_add-total
overflow_add-total c =
    let e = c.draw_two.ensures in
    omega (arith, total_small (goes_on_by_two c.loop-k.invariant (omega arith) _ refl {r = c.from-total.result} (omega (arith, e.value)) e.r0_after e.r1_after e.r2_after) (omega arith) c.requires.few)

pub loop-k-preserved : goal.loop-k-preserved
loop-k-preserved c =
    let e = c.draw_two.ensures in
    goes_on_by_two c.loop-k.invariant (omega arith) _ (omega arith) {r = c.from-total.result} (omega (arith, e.value)) e.r0_after e.r1_after e.r2_after

pub draw_each-requires : goal.draw_each-requires
draw_each-requires c =
    let g = at_place c.loop-k.invariant (c.args.b + 2 * ((c.args.e - c.args.b) / 2)) (omega arith) in
    let h = c.requires.channels_fit in
    record {
      entries_fit = g.fit;
      few = c.requires.few;
      channels_fit = record { fits0 = omega (arith, g.length0); fits1 = omega (arith, g.length1); fits2 = omega (arith, g.length2) };
    }

pub overflow_add-result : goal.overflow_add-result
overflow_add-result c =
    let A = c.args in
    let g = at_place c.loop-k.invariant (A.b + 2 * ((A.e - A.b) / 2)) (omega arith) in
    omega (arith, total_small g (omega arith) c.requires.few, c.draw_each.ensures.value)

pub returns : goal.returns
returns c =
    let A = c.args in
    let g = at_place c.loop-k.invariant (A.b + 2 * ((A.e - A.b) / 2)) (omega arith) in
    let e = c.draw_each.ensures in
    record { value = omega (arith, g.counts, e.value); r0_after = e.r0_after ∙ g.draws0; r1_after = e.r1_after ∙ g.draws1; r2_after = e.r2_after ∙ g.draws2 }
