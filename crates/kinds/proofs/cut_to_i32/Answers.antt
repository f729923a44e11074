-- Each arm is a case of the kind for an i64, held against the range of an i32.
use Rattle.std.proofs.Common.{◌≡◌, sym, ap, ◌∙◌, subst, to_z-of_z, w64, SFits}
use lib.Ieee.{to_signed}
use lib.Ieee.Casts.{to_signed_in}
use Rattle.kinds.specs.Kind.{within_i32, saturated_i64}
use Rattle.kinds.proofs.ByKind.{narrowed, narrowed_is, saturated_i64_lem}
use Rattle.kinds.proofs.cut_to_i32.Goals as goal

pub returns-in-Exact : goal.returns-in-Exact
returns-in-Exact c =
    let z = c.in-Exact.z in
    let is : z ≡ to_signed 63 c.args.x = ap saturated_i64 (sym c.in-Exact.is ∙ c.cut_to_i64.ensures) ∙ saturated_i64_lem c.args.x in
    c.within_i32.ensures
    ∙ ap (λ y. within_i32 y) (to_z-of_z {w = w64} {z = z} (subst (SFits w64) (sym is) (record { sfits = to_signed_in 63 c.args.x })))
    ∙ ap narrowed (sym c.in-Exact.is ∙ c.cut_to_i64.ensures)
    ∙ narrowed_is c.args.x

pub returns-in-NotNumber : goal.returns-in-NotNumber
returns-in-NotNumber c = ap narrowed (sym c.in-NotNumber.is ∙ c.cut_to_i64.ensures) ∙ narrowed_is c.args.x

pub returns-in-Below : goal.returns-in-Below
returns-in-Below c = ap narrowed (sym c.in-Below.is ∙ c.cut_to_i64.ensures) ∙ narrowed_is c.args.x

pub returns-in-Above : goal.returns-in-Above
returns-in-Above c = ap narrowed (sym c.in-Above.is ∙ c.cut_to_i64.ensures) ∙ narrowed_is c.args.x
