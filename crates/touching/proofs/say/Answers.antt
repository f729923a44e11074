-- `say` meets what `traces` requires by its four tests, and lends the keys that were found.
use mathlib.Core.Path.{refl, sym}
use lib.Seq.{length-take-le}
use borrow.Author.Rules.{rules}
use Rattle.touching.proofs.say.Goals as goal

pub traces-n-requires : goal.traces-n-requires
traces-n-requires c = record { count_in_bounds = search rules; cells_value = refl }

pub slice_bounds-say_found-end : goal.slice_bounds-say_found-end
slice_bounds-say_found-end c = sym (length-take-le _ _ c.traces-n.ensures.0)
