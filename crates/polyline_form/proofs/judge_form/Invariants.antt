-- `polyline_form::judge_form` meets its contract: before each byte, what is left of the text is judged as the whole is.
use mathlib.Core.Path.{◌≡◌}
use lib.ListN.{drop}
use Rattle.polyline.specs.Stages.{text_from, text_of}
use Rattle.polyline_form.proofs.judge_form.Given as goal

abbrev pub invariant-loop-i : goal.invariant-loop-i
invariant-loop-i l = text_from l.stage l.i (drop l.i l.text) ≡ text_of l.text
