-- An exact number that was given fits, and is tested against the range; every other kind is none.
use mathlib.Core.Path.{◌≡◌, refl, ap, sym, subst, ◌∙◌}
use mathlib.Core.Bool.{Bool, true, false, cond}
use Rattle.std.specs.Bool.{then_some}
use lib.IntN.{ℤ}
use lib.Ieee.{Float, binary32}
use lib.Ieee.Casts.{to_signed_in}
use mir.Syntax.{w32}
use mir.Val.{SFits, to_z, of_z}
use mir.Facts.{to_z-of_z}
use Rattle.wholes.specs.Whole.{round_of}
use Rattle.kinds.specs.Kind.{cut_i32, saturated_i32}
use Rattle.kinds.specs.declared.Kind.{Kind}
use Rattle.kinds.specs.declared.Kind.TheVariants as K
use Rattle.kinds.proofs.ByKind.{saturated_i32_lem}
use Rattle.control_points.specs.ControlPoints.{coordinate_by, in_range, rounded_of}
use Rattle.control_points.specs.Answers.{Coordinate, At, Out}
use Rattle.control_points.proofs.rounded.Goals as goal

fitting : (x : Float) (z : ℤ) → K.Exact z ≡ cut_i32 (round_of binary32 x) → to_z w32 (of_z w32 z) ≡ z
fitting x z kind =
    to_z-of_z {w = w32} {z = z} (subst (SFits w32) (sym (ap saturated_i32 kind ∙ saturated_i32_lem (round_of binary32 x))) (record { sfits = to_signed_in 31 (round_of binary32 x) }))

tested : (b : Bool) (z : ℤ) → then_some b z ≡ cond b (At z) Out
tested true z = refl
tested false z = refl

-- any other kind is none
other : (k : Kind ℤ) → ((z : ℤ) → k ≡ K.Exact z → ⊥) → ◌≡◌ {A = Coordinate} Out (coordinate_by k)
other (K.Exact z) not_exact = absurd (not_exact z refl)
other K.NotNumber h = refl
other K.Below h = refl
other K.Above h = refl

pub returns-in-Exact : goal.returns-in-Exact
unfolding rounded_of
returns-in-Exact c =
    let kind = sym c.in-Exact.is ∙ c.rounded_to_i32.ensures in
    let back = fitting c.args.x c.in-Exact.z kind in
    c.then_some.ensures ∙ rw (← kind, back, rw back at c.in_range.ensures) (tested (in_range c.in-Exact.z) c.in-Exact.z)

pub returns-in_default : goal.returns-in_default
unfolding rounded_of
returns-in_default c = other _ c.in_default.not-Exact ∙ ap coordinate_by c.rounded_to_i32.ensures
