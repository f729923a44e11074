-- `judge_header` meets its contract: the offsets come first.
use mathlib.Core.Path.{sym, ◌∙◌}
use mathlib.Core.List.{[], ◌∷◌}
use lib.ListN.{get_or}
use Rattle.codes.specs.declared.Code.TheVariants.{Edition}
use Rattle.codes.proofs.Refusals.{passed_on}
use Rattle.writer.specs.Write.{check}
use Rattle.write_judge.proofs.Checks.{faults_before, fine_before}
use Rattle.little.specs.Little.{numbers_in}
use Rattle.trace.specs.Read.{offset_checks}
use Rattle.trace2.specs.Editions.{unknown}
use Rattle.trace2_judge.proofs.judge_header.Goals as goal

pub returns-in_err-judge_offsets : goal.returns-in_err-judge_offsets
returns-in_err-judge_offsets c =
    let ns = numbers_in c.args.bytes.now in
    let r = c.in_err-judge_offsets.field-0.0 in
    passed_on _ _ _ c.from_residual.ensures.1
    (faults_before (offset_checks 9 ns) (check (unknown (get_or ns 8 0)) Edition 32 ∷ []) r.0 r.1 (sym c.judge_offsets.ensures ∙ c.in_err-judge_offsets.was))

pub returns : goal.returns
returns c =
    let ns = numbers_in c.args.bytes.now in
    c.judge_edition.ensures
    ∙ sym (fine_before (offset_checks 9 ns) (check (unknown (get_or ns 8 0)) Edition 32 ∷ []) (sym c.judge_offsets.ensures ∙ c.in_ok-judge_offsets.was))
