-- `write_judge::wild_at` meets its contract: the number is itself when it is read.
use Rattle.std.proofs.Common.{leb, get_or, pos, nat_abs, ap, ◌∙◌, to_z-of_z, w32}
use Rattle.list.specs.List.{delta_limit}
use Rattle.write_judge.proofs.wild_at.Goals as goal

pub returns : goal.returns
returns c =
    let a = c.args in
    let z = to_z-of_z {w = w32} {z = get_or a.deltas.now a.i (pos 0)} (record { sfits = c.unsigned_abs-arg-1.given }) in
    ap (leb delta_limit) (c.unsigned_abs.ensures.value ∙ ap nat_abs z)
