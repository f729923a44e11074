-- `decimal::put_digits` meets its contract: they end as many bytes on as there are digits.
use mathlib.Core.Path.{◌≡◌, ap, ◌∙◌}
use Prim.Native.Nat.{ℕ, ◌+◌, ◌-◌}
use native.Mathlib.Omega.{arith}
use lib.ListN.{length}
use lib.Seq.{sets}
use Rattle.polyline.specs.Write.{digits_of}
use Rattle.polyline.proofs.Digits.{length_most}
use Rattle.decimal.proofs.put_digits.Goals as goal

pub overflow_add-end : goal.overflow_add-end
overflow_add-end c = record { fits = omega (arith, c.width.ensures, length_most 9 c.args.n (omega arith)) }

pub returns : goal.returns
returns c =
    let w = c.width.ensures in
    let j : c.args.at + c.width.result - length (digits_of c.args.n) ≡ c.args.at = omega (arith, w) in
    (c.put_back.ensures ∙ ap (λ (k : ℕ). sets c.args.text.now k (digits_of c.args.n)) j, omega (arith, w))
