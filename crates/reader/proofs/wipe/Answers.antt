-- `wipe`: four buffers, cleared one after the other; the zero of f32 is that of the clauses.
use borrow.Author.Rules.{rules}
use lib.ListN.{length}
use Rattle.list.proofs.Buffers.{zeros_f32}
use Rattle.reader.proofs.wipe.Goals as goal

pub returns : goal.returns
returns c = record {
  counts = search rules;
  starts = zeros_f32 (length c.args.starts.now) (search rules);
  deltas = search rules;
  coefficients = search rules;
}
