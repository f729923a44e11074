-- `aktyrbuz_trace_read` meets its contract: what `trace_read` leaves, and its answer told in five numbers.
use Rattle.aktyrbuz.proofs.Numbers.{read_exported}
use Rattle.aktyrbuz.proofs.trace_files.aktyrbuz_trace_read.Goals as goal

pub returns : goal.returns
returns c = read_exported _ _ _ _ _ _ _ c.trace_read.ensures c.tell.ensures.number c.tell.ensures.five
