-- A power below 2 ^ 23 is a digit of the pattern, any other its field.
use Prim.Native.Nat.{◌-◌, ◌*◌, ◌%◌, ◌^◌}
use Rattle.to_f32.proofs.Pattern.{low_power, high_power, power_no_nan}
use Rattle.to_f32.proofs.scale.Goals as goal

pub float_from_bits-result : goal.float_from_bits-result
float_from_bits-result c = power_no_nan c.args.w (1 * 2 ^ c.args.w % 2 ^ 32) (low_power c.args.w c.if-w-lt23.true)

pub float_from_bits-result-else-w-lt23 : goal.float_from_bits-result-else-w-lt23
float_from_bits-result-else-w-lt23 c = power_no_nan c.args.w ((c.args.w - 22) * 2 ^ 23 % 2 ^ 32) (high_power c.args.w c.if-w-lt23.false c.requires)

pub returns-then-w-lt23 : goal.returns-then-w-lt23
returns-then-w-lt23 c = low_power c.args.w c.if-w-lt23.true

pub returns-else-w-lt23 : goal.returns-else-w-lt23
returns-else-w-lt23 c = high_power c.args.w c.if-w-lt23.false c.requires
