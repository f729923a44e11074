-- `trace_read2` meets its contract: version 2 by its own steps with its ninth number, and any other file by `trace_read` with edition 1.
use mathlib.Core.Path.{refl, sym, ◌∙◌}
use Rattle.std.specs.Prelude.{Ok, Err}
use Rattle.codes.proofs.Refusals.{passed_on}
use Rattle.trace2_read.proofs.Seconds.{second_is, second_told, other_told}
use Rattle.trace2_read.proofs.trace_read2.Goals as goal

pub read_second-requires : goal.read_second-requires
read_second-requires c = second_is c.args.bytes.now (sym c.says_second.ensures ∙ c.if-says_second.true)

pub returns-in_err-read : goal.returns-in_err-read
returns-in_err-read c =
    let e = c.in_err-read.field-0.0 in
    rw (passed_on c.from_residual.result e (Err e) c.from_residual.ensures.1 refl)
    (second_told _ _ (Err e) (Err e) _ _ _ _ _ refl refl (sym c.says_second.ensures ∙ c.if-says_second.true) c.ninth-edition.ensures c.in_err-read.ensures)

pub returns-in_ok-read : goal.returns-in_ok-read
returns-in_ok-read c = second_told _ _ (Ok (record { read = c.in_ok-read.read; edition = c.ninth-edition.result })) (Ok c.in_ok-read.read) _ _ _ _ _ refl refl (sym c.says_second.ensures ∙ c.if-says_second.true) c.ninth-edition.ensures c.in_ok-read.ensures

pub returns-in_err-read-2 : goal.returns-in_err-read-2
returns-in_err-read-2 c =
    let e = c.in_err-read-2.field-0.0 in
    rw (passed_on c.from_residual-in_err-read-2.result e (Err e) c.from_residual-in_err-read-2.ensures.1 refl)
    (other_told _ _ (Err e) (Err e) 1 _ _ _ _ refl refl (sym c.says_second.ensures ∙ c.if-says_second.false) refl c.in_err-read-2.ensures)

pub returns-in_ok-read-2 : goal.returns-in_ok-read-2
returns-in_ok-read-2 c = other_told _ _ (Ok (record { read = c.in_ok-read-2.read; edition = 1 })) (Ok c.in_ok-read-2.read) 1 _ _ _ _ refl refl (sym c.says_second.ensures ∙ c.if-says_second.false) refl c.in_ok-read-2.ensures
