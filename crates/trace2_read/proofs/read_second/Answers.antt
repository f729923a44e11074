-- `read_second` meets its contract: a file that is judged by the checks of version 2 is read behind nine numbers.
use mathlib.Core.Path.{sym, ap, ◌∙◌}
use native.Mathlib.Omega.{arith}
use lib.ListN.{length, get_or}
use Rattle.reader.specs.Read.{rooms_of, outcome}
use Rattle.little.specs.Little.{numbers_in}
use Rattle.trace2.specs.Read.{laid_checks}
use Rattle.trace2_judge.proofs.Laid.{laid_sound}
use Rattle.trace2_read.proofs.Seconds.{read_alike}
use Rattle.trace2_read.proofs.read_second.Goals as goal

pub read_judged-requires : goal.read_judged-requires
read_judged-requires c =
    let b = c.args.bytes.now in
    (omega arith, λ e. laid_sound (get_or (numbers_in b) 8 0) (length b) (numbers_in b) (sym c.judge_second-found.ensures ∙ e))

pub returns : goal.returns
returns c =
    let a = c.args in
    let b = a.bytes.now in
    let rooms = rooms_of a.counts.now a.starts.now a.deltas.now a.coefficients.now in
    c.read_judged.ensures (laid_checks 9 (get_or (numbers_in b) 8 0) (length b) (numbers_in b)) c.judge_second-found.ensures
    ∙ ap (outcome rooms) (read_alike rooms b c.requires)
