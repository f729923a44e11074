-- `frame::judge` meets its contract: each answer is that of the tests that led to it.
use mathlib.Core.Path.{sym, ◌∙◌}
use Rattle.frame.proofs.Laws.{judged_short, judged_stranger, judged_version, judged_on, on_past, on_at}
use Rattle.frame.proofs.judge.Goals as goal

pub returns-then-words-lt4 : goal.returns-then-words-lt4
returns-then-words-lt4 c = judged_short _ c.if-words-lt4.true

pub returns-then-words-ne-MAGIC : goal.returns-then-words-ne-MAGIC
returns-then-words-ne-MAGIC c = judged_stranger _ c.if-words-lt4.false c.if-words-ne-MAGIC.true

pub returns-then-words-ne-VERSION : goal.returns-then-words-ne-VERSION
returns-then-words-ne-VERSION c = judged_version _ c.if-words-lt4.false c.if-words-ne-MAGIC.false c.if-words-ne-VERSION.true

pub returns-in-None : goal.returns-in-None
returns-in-None c = on_past _ (judged_on _ c.if-words-lt4.false c.if-words-ne-MAGIC.false c.if-words-ne-VERSION.false) (sym c.end_of_cases.ensures ∙ c.in-None.is)

pub returns-in-Some : goal.returns-in-Some
returns-in-Some c = c.settled.ensures ∙ on_at _ (judged_on _ c.if-words-lt4.false c.if-words-ne-MAGIC.false c.if-words-ne-VERSION.false) (sym c.end_of_cases.ensures ∙ c.in-Some.is)
