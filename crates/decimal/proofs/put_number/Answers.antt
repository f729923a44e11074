-- `decimal::put_number` meets its contract: a minus and the digits of what is left without it, or the digits.
use mathlib.Core.Path.{◌≡◌}
use Prim.Native.Nat.{suc}
use mir.Syntax.{w32}
use mir.Facts.{to_z-of_z}
use Rattle.list.proofs.Signed.{tested_below, not_below}
use Rattle.decimal.proofs.Backs.{minus_text, plain_text}
use Rattle.decimal.proofs.put_number.Goals as goal

pub returns-then-v-lt0 : goal.returns-then-v-lt0
returns-then-v-lt0 c =
    let b = tested_below c.args.v c.ranges.v c.if-v-lt0.true in
    let n : c.unsigned_abs.result ≡ suc b.k = rw (to_z-of_z {w = w32} {z = c.args.v} c.ranges.v, b.is) at c.unsigned_abs.ensures.value in
    minus_text c.args.v c.requires.1 b.k b.is c.args.text.now _ _ c.args.at _ c.put.ensures (rw n at c.put_digits.ensures)

pub returns-else-v-lt0 : goal.returns-else-v-lt0
returns-else-v-lt0 c =
    let b = not_below c.args.v c.ranges.v c.if-v-lt0.false in
    let n : c.unsigned_abs-else-v-lt0.result ≡ b.n = rw (to_z-of_z {w = w32} {z = c.args.v} c.ranges.v, b.is) at c.unsigned_abs-else-v-lt0.ensures.value in
    plain_text c.args.v c.requires.1 b.n b.is c.args.text.now _ c.args.at _ (rw n at c.put_digits-else-v-lt0.ensures)
