-- The path is that of the words, and the cells are what the walk leaves.
use Rattle.replay_layers.proofs.Agreeing.{path_is, taken, long_enough, walk_agrees}
use borrow.Author.Rules.{rules}
use Rattle.replay_layers.proofs.walk.Goals as goal

pub slice_bounds-walk-end : goal.slice_bounds-walk-end
slice_bounds-walk-end c =
    let t = taken c.args.input.now _ _ c.floats.ensures c.if-n-gt256.false in
    search (rules, t)

pub walk-requires : goal.walk-requires
walk-requires c = long_enough c.args.input.now _ 2 _ c.floats.ensures c.if-n-lt2.false c.if-n-gt256.false

pub returns-then-k-output : goal.returns-then-k-output
returns-then-k-output c =
    let A = c.args in
    let w = c.walk.ensures in
    λ e. walk_agrees A.input.now A.output.now (path_is A.input.now c.floats.ensures) w.0 c.in-Some.is w.1 c.if-k-output.true (c.begin_f32.ensures e)
