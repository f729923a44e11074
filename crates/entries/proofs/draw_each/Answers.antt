use mathlib.Core.Path.{refl}
use native.Mathlib.Omega.{arith}
use Rattle.checks.proofs.Entries.{first_in_segments, first_seen}
use Rattle.entries.proofs.Entries.{starts, goes_on, total_small, ends}
use Rattle.entries.proofs.draw_each.Goals as goal

pub loop-j-init : goal.loop-j-init
loop-j-init c = starts _ _ _ _ _ _ _ refl c.requires.entries_fit

pub draw_shown-requires : goal.draw_shown-requires
draw_shown-requires c =
    let l = c.loop-j in
    let f = l.invariant.fit in
    let h = c.requires.channels_fit in
    record {
      i_in_bounds = first_in_segments f (omega arith);
      i_seen = first_seen f (omega arith);
      fit = record { fits0 = omega (arith, l.invariant.length0); fits1 = omega (arith, l.invariant.length1); fits2 = omega (arith, l.invariant.length2) };
    }

pub overflow_add-total : goal.overflow_add-total
overflow_add-total c =
    let e = c.draw_shown.ensures in
    omega (arith, total_small (goes_on c.loop-j.invariant (omega arith) {r = c.from-total.result} (omega (arith, e.value)) e.r0_after e.r1_after e.r2_after) (omega arith) c.requires.few)

pub loop-j-preserved : goal.loop-j-preserved
loop-j-preserved c =
    let e = c.draw_shown.ensures in
    goes_on c.loop-j.invariant (omega arith) {r = c.from-total.result} (omega (arith, e.value)) e.r0_after e.r1_after e.r2_after

pub returns : goal.returns
returns c =
    let all = ends c.loop-j.invariant (omega arith) in
    record { value = all.0; r0_after = all.1; r1_after = all.2; r2_after = all.3 }
