-- `read_judged` meets its contract: the buffers are zero before what was found is looked at, and a file with no fault is loaded.
use mathlib.Core.Path.{refl, sym, ◌∙◌}
use Rattle.std.specs.Prelude.{Ok, Err}
use native.Mathlib.Omega.{arith}
use Rattle.codes.proofs.Refusals.{passed_on}
use Rattle.reader.specs.Read.{rooms_of}
use Rattle.trace_read.proofs.Loads.{sound_body, sound_loadable, left_fault, left_room, left_all}
use Rattle.trace_read.proofs.read_judged.Goals as goal

pub number_at-s-requires : goal.number_at-s-requires
number_at-s-requires c =
    let k = sound_body c.args.h c.args.bytes.now (c.requires.1 c.in_ok-found.was) in
    omega (arith, k.whole, c.requires.0)

pub number_at-p-requires : goal.number_at-p-requires
number_at-p-requires c =
    let k = sound_body c.args.h c.args.bytes.now (c.requires.1 c.in_ok-found.was) in
    omega (arith, k.whole, c.requires.0)

pub load-requires : goal.load-requires
load-requires c =
    let w = c.wipe in
    let k = sound_body c.args.h c.args.bytes.now (c.requires.1 c.in_ok-found.was) in
    (c.requires.0, sound_loadable c.args.h (rooms_of w.new.counts w.new.starts w.new.deltas w.new.coefficients) c.args.bytes.now _ _ k c.number_at-s.ensures c.number_at-p.ensures (sym c.lacks_room.ensures ∙ c.if-lacks_room.false))

pub returns-in_err-found : goal.returns-in_err-found
returns-in_err-found c = λ checks is.
    let w = c.wipe in
    let a = c.args in
    let e = c.in_err-found.field-0.0 in
    rw (passed_on c.from_residual.result e (Err e) c.from_residual.ensures.1 refl)
    (left_fault a.h checks a.bytes.now a.counts.now w.new.counts a.starts.now w.new.starts a.deltas.now w.new.deltas a.coefficients.now w.new.coefficients w.ensures e.0 e.1 (sym is ∙ c.in_err-found.was))

pub returns-then-lacks_room : goal.returns-then-lacks_room
returns-then-lacks_room c = λ checks is.
    let w = c.wipe in
    let a = c.args in
    left_room a.h checks a.bytes.now a.counts.now w.new.counts a.starts.now w.new.starts a.deltas.now w.new.deltas a.coefficients.now w.new.coefficients w.ensures
    (sym is ∙ c.in_ok-found.was) _ _ c.number_at-s.ensures c.number_at-p.ensures (sym c.lacks_room.ensures ∙ c.if-lacks_room.true)

pub returns : goal.returns
returns c = λ checks is.
    let w = c.wipe in
    let a = c.args in
    let g = c.load in
    left_all a.h checks a.bytes.now a.counts.now w.new.counts a.starts.now w.new.starts a.deltas.now w.new.deltas a.coefficients.now w.new.coefficients w.ensures
    (sym is ∙ c.in_ok-found.was) _ _ c.number_at-s.ensures c.number_at-p.ensures (Ok g.result) g.new.counts g.new.starts g.new.deltas g.new.coefficients
    (sym c.lacks_room.ensures ∙ c.if-lacks_room.false) g.ensures
