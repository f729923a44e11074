-- `judge_file` meets its contract: the shape, the edition, the version, then the rest.
use mathlib.Core.Path.{sym, ◌∙◌}
use Rattle.shape.specs.Description.{description_in}
use Rattle.trace2_write.proofs.Seconds.{file_shape, file_edition, file_version, file_rest}
use Rattle.trace2_write.proofs.judge_file.Goals as goal

pub returns-then-not-is_shaped : goal.returns-then-not-is_shaped
returns-then-not-is_shaped c =
    let a = c.args in
    let d = description_in a.description.now in
    file_shape a.version a.edition d (sym c.is_shaped.ensures ∙ c.if-not-is_shaped.true)

pub returns-then-barred : goal.returns-then-barred
returns-then-barred c =
    let a = c.args in
    let d = description_in a.description.now in
    file_edition a.version a.edition d (sym c.is_shaped.ensures ∙ c.if-not-is_shaped.false) (sym c.barred.ensures ∙ c.if-barred.true)

pub returns-then-unknown : goal.returns-then-unknown
returns-then-unknown c =
    let a = c.args in
    let d = description_in a.description.now in
    file_version a.version a.edition d (sym c.is_shaped.ensures ∙ c.if-not-is_shaped.false) (sym c.barred.ensures ∙ c.if-barred.false) (sym c.unknown.ensures ∙ c.if-unknown.true)

pub returns : goal.returns
returns c =
    let a = c.args in
    let d = description_in a.description.now in
    c.judge.ensures
    ∙ file_rest a.version a.edition d (sym c.is_shaped.ensures ∙ c.if-not-is_shaped.false) (sym c.barred.ensures ∙ c.if-barred.false) (sym c.unknown.ensures ∙ c.if-unknown.false) _ c.header_long.ensures.0
