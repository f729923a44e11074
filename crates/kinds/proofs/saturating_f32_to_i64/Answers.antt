-- The kind held to the range is Rust's `as`.
use Rattle.std.proofs.Common.{◌≡◌, ap, ◌∙◌, to_z-of_z, w64}
use lib.Ieee.{to_signed}
use lib.Ieee.Casts.{to_signed_in}
use Rattle.kinds.specs.Kind.{saturated_i64}
use Rattle.kinds.proofs.ByKind.{saturated_i64_lem}
use Rattle.kinds.proofs.saturating_f32_to_i64.Goals as goal

pub returns : goal.returns
returns c =
    let e : c.held.result ≡ to_signed 63 c.args.x = c.held.ensures ∙ ap saturated_i64 c.cut_to_i64.ensures ∙ saturated_i64_lem c.args.x in
    rw e (to_z-of_z {w = w64} {z = to_signed 63 c.args.x} (record { sfits = to_signed_in 63 c.args.x }))
