-- `build`: what the checks say decides between a refusal and the painting.
use mathlib.Core.Path.{sym, ◌∙◌}
use Rattle.dequantize.specs.Judge.{description_in}
use Rattle.table.specs.Table.{rooms_of, setting_in}
use Rattle.verdict.proofs.Checks.{ready}
use Rattle.table.proofs.Placing.{build_refused, build_painted}
use Rattle.table.proofs.build.Goals as goal

pub paint-requires : goal.paint-requires
paint-requires c =
    let f = ready _ _ _ _ _ _ (sym c.judge_all.ensures ∙ c.in-Ok.is) in
    (f.shape, record { total = _; fine = f.fine }, f.low, f.tall)

pub returns-in-Err : goal.returns-in-Err
returns-in-Err c =
    c.refuse.ensures
    ∙ build_refused (description_in c.args.description.now) (setting_in c.args.setting) (rooms_of c.args.path.now c.args.walk.now c.args.segments.now c.args.owners.now c.args.row_starts.now c.args.entries.now) c.given_of-given.ensures c.judge_all.ensures c.in-Err.is

pub returns-in-Ok : goal.returns-in-Ok
returns-in-Ok c =
    c.paint.ensures
    ∙ build_painted (description_in c.args.description.now) (setting_in c.args.setting) (rooms_of c.args.path.now c.args.walk.now c.args.segments.now c.args.owners.now c.args.row_starts.now c.args.entries.now) c.given_of-given.ensures c.judge_all.ensures c.in-Ok.is
