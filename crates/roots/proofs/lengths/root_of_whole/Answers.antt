-- `root_of_whole` meets its contract: the leading zeros say how many pairs of digits are put after n or dropped.
use mathlib.Core.Path.{◌≡◌, refl, sym, ap, ◌∙◌}
use native.Mathlib.Omega.{arith}
use lib.Ieee.{binary32, of_bits}
use Rattle.roots.specs.Root.{root_of_whole}
use Rattle.roots.proofs.RootOfWhole.{z_ge, z_lt, raised_lt, raised_root_lo, raised_root_hi, short_root, long_hi, long_root_lo, long_root_hi, long_root}
use Rattle.roots.proofs.lengths.root_of_whole.Goals as goal

none : of_bits binary32 0 ≡ root_of_whole binary32 0
unfolding of_bits root_of_whole
none = refl

pub returns-then-n-eq0 : goal.returns-then-n-eq0
returns-then-n-eq0 c = none ∙ ap (root_of_whole binary32) (sym c.if-n-eq0.true)

-- ---- fewer than 49 digits
pub overflow_sub-t : goal.overflow_sub-t
overflow_sub-t c = z_ge c.args.n c.if-n-eq0.false c.ranges.n.fits c.if-n-lt281474976710656.true

pub nearest_root-requires : goal.nearest_root-requires
nearest_root-requires c = raised_lt c.args.n c.if-n-eq0.false c.ranges.n.fits c.if-n-lt281474976710656.true

pub placed-requires : goal.placed-requires
placed-requires c =
    let n = c.args.n in
    record {
      fact_1 = raised_root_lo n c.if-n-eq0.false c.ranges.n.fits c.if-n-lt281474976710656.true _ c.nearest_root.ensures;
      fact_2 = raised_root_hi n c.if-n-eq0.false c.ranges.n.fits c.if-n-lt281474976710656.true _ c.nearest_root.ensures;
      fact_3 = omega arith;
    }

pub returns-then-n-lt281474976710656 : goal.returns-then-n-lt281474976710656
returns-then-n-lt281474976710656 c =
    c.placed.ensures ∙ short_root c.args.n c.if-n-eq0.false c.ranges.n.fits c.if-n-lt281474976710656.true _ c.nearest_root.ensures

-- ---- 49 digits or more
pub overflow_sub-k : goal.overflow_sub-k
overflow_sub-k c = omega (arith, z_lt c.args.n c.if-n-eq0.false c.ranges.n.fits c.if-n-lt281474976710656.false)

pub kept_root-requires : goal.kept_root-requires
kept_root-requires c =
    let n = c.args.n in
    let few = z_lt n c.if-n-eq0.false c.ranges.n.fits c.if-n-lt281474976710656.false in
    record {
      fact_1 = omega (arith, few);
      fact_2 = omega arith;
      fact_3 = long_hi n c.if-n-eq0.false c.ranges.n.fits c.if-n-lt281474976710656.false;
    }

pub placed-requires-else-n-lt281474976710656 : goal.placed-requires-else-n-lt281474976710656
placed-requires-else-n-lt281474976710656 c =
    let n = c.args.n in
    record {
      fact_1 = long_root_lo n c.if-n-eq0.false c.ranges.n.fits c.if-n-lt281474976710656.false _ c.kept_root.ensures;
      fact_2 = long_root_hi n c.if-n-eq0.false c.ranges.n.fits c.if-n-lt281474976710656.false _ c.kept_root.ensures;
      fact_3 = omega arith;
    }

pub returns-else-n-lt281474976710656 : goal.returns-else-n-lt281474976710656
returns-else-n-lt281474976710656 c =
    c.placed-else-n-lt281474976710656.ensures
    ∙ long_root c.args.n c.if-n-eq0.false c.ranges.n.fits c.if-n-lt281474976710656.false _ c.kept_root.ensures
