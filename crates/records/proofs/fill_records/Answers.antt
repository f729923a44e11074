-- Filled to its length, the slice is the list of its records.
use Rattle.std.proofs.Common.{◌≡◌, ap, ◌∙◌, ℕ, length, arith}
use Rattle.records.specs.Records.{zero_record, record_of}
use Rattle.records.proofs.Fills.{fills, fills_all}
use Rattle.records.proofs.fill_records.Goals as goal

pub returns : goal.returns
returns c =
    let A = c.args in
    let g = record_of A.flat.now A.owners.now A.count in
    let done : c.loop-i.i ≡ length A.records.now = omega arith in
    c.loop-i.invariant ∙ ap (λ (n : ℕ). fills g n A.records.now) done ∙ fills_all g zero_record A.records.now
