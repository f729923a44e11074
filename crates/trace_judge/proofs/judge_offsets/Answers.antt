-- `judge_offsets` meets its contract: four offsets, one after the other.
use mathlib.Core.Path.{sym, ◌∙◌}
use Rattle.little.specs.Little.{numbers_in}
use Rattle.trace_judge.proofs.Faults.{offset_16, offset_20, offset_24, offset_28, offsets_fine}
use Rattle.trace_judge.proofs.judge_offsets.Goals as goal

pub returns-then-wrong : goal.returns-then-wrong
returns-then-wrong c =
    let a = c.args in
    let g = c.requires in
    offset_16 a.h (numbers_in a.bytes.now) a.s a.p g.splines g.points (sym c.wrong.ensures ∙ c.if-wrong.true)

pub returns-then-wrong-2 : goal.returns-then-wrong-2
returns-then-wrong-2 c =
    let a = c.args in
    let g = c.requires in
    offset_20 a.h (numbers_in a.bytes.now) a.s a.p g.splines g.points (sym c.wrong.ensures ∙ c.if-wrong.false) (sym c.wrong-2.ensures ∙ c.if-wrong-2.true)

pub returns-then-wrong-3 : goal.returns-then-wrong-3
returns-then-wrong-3 c =
    let a = c.args in
    let g = c.requires in
    offset_24 a.h (numbers_in a.bytes.now) a.s a.p g.splines g.points (sym c.wrong.ensures ∙ c.if-wrong.false) (sym c.wrong-2.ensures ∙ c.if-wrong-2.false) (sym c.wrong-3.ensures ∙ c.if-wrong-3.true)

pub returns-then-wrong-4 : goal.returns-then-wrong-4
returns-then-wrong-4 c =
    let a = c.args in
    let g = c.requires in
    offset_28 a.h (numbers_in a.bytes.now) a.s a.p g.splines g.points (sym c.wrong.ensures ∙ c.if-wrong.false) (sym c.wrong-2.ensures ∙ c.if-wrong-2.false) (sym c.wrong-3.ensures ∙ c.if-wrong-3.false) (sym c.wrong-4.ensures ∙ c.if-wrong-4.true)

pub returns : goal.returns
returns c =
    let a = c.args in
    let g = c.requires in
    offsets_fine a.h (numbers_in a.bytes.now) a.s a.p g.splines g.points (sym c.wrong.ensures ∙ c.if-wrong.false) (sym c.wrong-2.ensures ∙ c.if-wrong-2.false) (sym c.wrong-3.ensures ∙ c.if-wrong-3.false) (sym c.wrong-4.ensures ∙ c.if-wrong-4.false)
