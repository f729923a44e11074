-- `aktyrbuz_trace_read2` meets its contract: what `trace_read2` leaves, and its answer told in five numbers.
use Rattle.aktyrbuz.proofs.Trace2Numbers.{file_exported}
use Rattle.aktyrbuz.proofs.trace_files2.aktyrbuz_trace_read2.Goals as goal

pub returns : goal.returns
returns c = file_exported c.trace_read2.result _ _ _ _ _ _ c.trace_read2.ensures c.tell.ensures.number c.tell.ensures.five
