use mathlib.Core.Path.{ap, ◌∙◌}
use borrow.Author.Rules.{rules}
use Prim.Native.Nat.{ℕ}
use lib.Dec.{eqb}
use Rattle.std.proofs.Common.{◌+◌, tests, take}
use Rattle.std.proofs.lemmas.Iterator.{YieldsList-from_slice, YieldsList-from_take}
use Rattle.std.proofs.lemmas.Iterator.Consumers.{YieldsList-from_filter, YieldsList-at, count_from_yields_List}
use Rattle.text.proofs.Lines.{feeds_are}
use Rattle.text.proofs.line_of.Goals as goal

pub returns : goal.returns
returns c = ap (λ (n : ℕ). 1 + n) (count_from_yields_List c.filter.result _ c.count.ensures.ran (YieldsList-from_filter _ (λ b. eqb b 10) (YieldsList-at c.filter.ensures.source (YieldsList-from_take c.args.at (YieldsList-at c.take.ensures.source (YieldsList-from_slice c.args.text.now (cc))) (cc))) c.filter.ensures.closure (λ x r q k. search (rules, tests))) ∙ feeds_are (take c.args.at c.args.text.now))
