-- The pattern's digits and field are those of the definition, and each branch is its own.
use mathlib.Core.Path.{◌≡◌, ap, ◌∙◌}
use native.Mathlib.Omega.{arith}
use lib.Bits.{mask_lt}
use lib.Ieee.{binary32, binary64, to_bits}
use lib.Ieee.Fits.{fits_widens}
use Rattle.to_f32.specs.Narrow.{narrow}
use Rattle.approximations.specs.Ln.{ln_above, ln_of}
use Rattle.approximations.proofs.Above.{of_positive, high, low, pattern, castable_place}
use Rattle.numbers.proofs.Zero.{yes, positive_is}
use Rattle.approximations.proofs.ln_above.Goals as goal

pub float_to_bits-b : goal.float_to_bits-b
float_to_bits-b c = rw c.from-b.ensures (positive_is c.args.x c.requires)

pub overflow_add-z : goal.overflow_add-z
overflow_add-z c = omega (arith, mask_lt (to_bits binary64 c.from-b.result) 52)

pub float_from_bits-z : goal.float_from_bits-z
float_from_bits-z c = pattern _ (mask_lt (to_bits binary64 c.from-b.result) 52)

pub int_to_float-k : goal.int_to_float-k
int_to_float-k c = castable_place c.from-b.result (rw c.from-b.ensures (fits_widens c.args.x (yes c.well_formed.0.1)))

pub returns-then-z : goal.returns-then-z
returns-then-z c =
    let read : narrow binary32 (ln_above (to_bits binary64 c.from-b.result)) ≡ ln_of c.args.x = rw c.from-b.ensures (of_positive c.args.x c.requires) in
    c.nearest_f64_to_f32.ensures ∙ ap (narrow binary32) (c.ln_at.ensures ∙ high (to_bits binary64 c.from-b.result) c.if-z.true) ∙ read

pub returns-else-z : goal.returns-else-z
returns-else-z c =
    let read : narrow binary32 (ln_above (to_bits binary64 c.from-b.result)) ≡ ln_of c.args.x = rw c.from-b.ensures (of_positive c.args.x c.requires) in
    c.nearest_f64_to_f32-else-z.ensures ∙ ap (narrow binary32) (c.ln_at-else-z.ensures ∙ low (to_bits binary64 c.from-b.result) c.if-z.false) ∙ read
