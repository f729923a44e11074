-- `write_judge::unfit_start` meets its contract: out of range by its order, and in range by the bits of its integer part.
use Rattle.std.proofs.Common.{T, sym, ◌∙◌, subst, to_z-of_z, w64}
use lib.Ieee.{of_bits, neg, to_signed, of_int, binary32}
use Rattle.write_judge.proofs.Starts.{between, far_below, far_above, small_float, whole_fit, fit_number, bits_tell}
use Rattle.write_judge.proofs.unfit_start.Goals as goal
use Rattle.write_judge.proofs.unfit_start.Goals.{else-x-via-then-x+else-x-2, else-x-via-else-x}

pub truncating_f32_to_i64-whole-requires : goal.truncating_f32_to_i64-whole-requires
unfolding of_bits neg
truncating_f32_to_i64-whole-requires c =
    let b = between c.args.x c.if-x.true c.if-x-2.true in
    record { lower_bound = b.above; upper_bound = b.beneath }

pub int_to_float-back : goal.int_to_float-back
unfolding of_bits neg
int_to_float-back c =
    let b = between c.args.x c.if-x.true c.if-x-2.true in
    let t = c.truncating_f32_to_i64-whole in
    let z = to_z-of_z {w = w64} {z = t.result} (record { sfits = t.type_inv }) ∙ t.ensures in
    rw z (small_float (to_signed 63 c.args.x) b.small)

pub float_to_bits-result : goal.float_to_bits-result
unfolding of_bits neg
float_to_bits-result c =
    (between c.args.x c.if-x.true c.if-x-2.true).number

pub float_to_bits-result-then-x-2 : goal.float_to_bits-result-then-x-2
unfolding of_bits neg
float_to_bits-result-then-x-2 c =
    let b = between c.args.x c.if-x.true c.if-x-2.true in
    let t = c.truncating_f32_to_i64-whole in
    let z = to_z-of_z {w = w64} {z = t.result} (record { sfits = t.type_inv }) ∙ t.ensures in
    let w = to_signed 63 c.args.x in
    rw z (fit_number (of_int binary32 w) (whole_fit w b.small))

pub returns-then-x-2 : goal.returns-then-x-2
unfolding of_bits neg
returns-then-x-2 c =
    let x = c.args.x in
    let b = between x c.if-x.true c.if-x-2.true in
    let t = c.truncating_f32_to_i64-whole in
    let z = to_z-of_z {w = w64} {z = t.result} (record { sfits = t.type_inv }) ∙ t.ensures in
    rw z (bits_tell x (subst T (sym c.well_formed.0.1) tt) b.small)

pub returns-else-x : goal.returns-else-x
unfolding of_bits neg
returns-else-x c =
    elim c.else-x.branch [
      | else-x-via-then-x+else-x-2 w ↦ far_above c.args.x w.if-x-2.false
      | else-x-via-else-x w ↦ far_below c.args.x w.if-x.false
    ]
