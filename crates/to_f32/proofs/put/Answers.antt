-- The kept digits are at most 2 ^ 24, so the product with the power of two is exact.
use mathlib.Core.Path.{◌∙◌}
use lib.Ieee.{binary32}
use Rattle.numbers.proofs.Units.{put, castable}
use Rattle.to_f32.proofs.Narrowing.{kept_le}
use Rattle.to_f32.proofs.put.Goals as goal

pub int_to_float-result : goal.int_to_float-result
int_to_float-result c = castable binary32 _ (kept_le _ _ _ c.requires.fact_1 c.requires.fact_2 c.shifted-q.ensures)

pub returns : goal.returns
returns c =
    put binary32 _ c.args.w c.scale.result (kept_le _ _ _ c.requires.fact_1 c.requires.fact_2 c.shifted-q.ensures) c.scale.ensures.value
    ∙ rw c.shifted-q.ensures
