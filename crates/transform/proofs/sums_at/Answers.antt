-- `sums_at`: eight products of each row after eight, then one law over the row, four times.
use mathlib.Core.Path.{refl}
use mathlib.Core.Logic.{inl, inr}
use native.Mathlib.Omega.{arith}
use Rattle.transform.specs.Transform.{sums_of}
use Rattle.transform.proofs.Dots.{scaled_is}
use Rattle.transform.proofs.sums_at.Goals as goal

pub more-one-requires : goal.more-one-requires
more-one-requires c = (refl, omega arith, inl refl, inl refl, inl refl, inl refl)

pub more-two-requires : goal.more-two-requires
more-two-requires c = let m = c.more-one.ensures in (refl, omega arith, inr m.0, inr m.1, inr m.2, inr m.3)

pub more-three-requires : goal.more-three-requires
more-three-requires c = let m = c.more-two.ensures in (refl, omega arith, inr m.0, inr m.1, inr m.2, inr m.3)

pub more-all-requires : goal.more-all-requires
more-all-requires c = let m = c.more-three.ensures in (refl, omega arith, inr m.0, inr m.1, inr m.2, inr m.3)

pub returns : goal.returns
unfolding sums_of
returns c =
    let a = c.args in
    let m = c.more-all.ensures in
    rw (scaled_is a.spline.x a.t m.0, scaled_is a.spline.y a.t m.1, scaled_is a.spline.b a.t m.2, scaled_is a.spline.sigma a.t m.3)
