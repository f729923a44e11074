-- By the place of the digits: none kept, some, all, or past the largest value.
use mathlib.Core.Path.{sym, ◌∙◌}
use lib.Ieee.{of_bits, div}
use Rattle.to_f32.proofs.Narrowing.{high, low, none, endless}
use Rattle.to_f32.proofs.narrow_above.Goals as goal

pub returns-then-e-le861 : goal.returns-then-e-le861
returns-then-e-le861 c =
    sym (none c.args.x c.split_f64-p.result.m c.split_f64-p.result.e c.split_f64-p.ensures c.requires c.if-e-le861.true)

pub returns-else-e-le861 : goal.returns-else-e-le861
returns-else-e-le861 c =
    c.put.ensures ∙ sym (low c.args.x c.split_f64-p.result.m c.split_f64-p.result.e c.split_f64-p.ensures c.requires c.if-e-lt896.true)

pub returns-then-e-lt1150 : goal.returns-then-e-lt1150
returns-then-e-lt1150 c =
    c.put-then-e-lt1150.ensures ∙ sym (high c.args.x c.split_f64-p.result.m c.split_f64-p.result.e c.split_f64-p.ensures c.requires c.if-e-lt896.false)

pub returns-else-e-lt1150 : goal.returns-else-e-lt1150
unfolding of_bits div
returns-else-e-lt1150 c =
    sym (endless c.args.x c.split_f64-p.result.m c.split_f64-p.result.e c.split_f64-p.ensures c.requires c.if-e-lt1150.false)
