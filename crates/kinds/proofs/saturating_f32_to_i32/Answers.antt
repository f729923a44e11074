-- The kind held to the range is Rust's `as`.
use Rattle.std.proofs.Common.{◌≡◌, ap, ◌∙◌, to_z-of_z, w32}
use lib.Ieee.{to_signed}
use lib.Ieee.Casts.{to_signed_in}
use Rattle.kinds.specs.Kind.{saturated_i32}
use Rattle.kinds.proofs.ByKind.{saturated_i32_lem}
use Rattle.kinds.proofs.saturating_f32_to_i32.Goals as goal

pub returns : goal.returns
returns c =
    let e : c.held.result ≡ to_signed 31 c.args.x = c.held.ensures ∙ ap saturated_i32 c.cut_to_i32.ensures ∙ saturated_i32_lem c.args.x in
    rw e (to_z-of_z {w = w32} {z = to_signed 31 c.args.x} (record { sfits = to_signed_in 31 c.args.x }))
