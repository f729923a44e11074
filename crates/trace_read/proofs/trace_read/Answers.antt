-- `trace_read` meets its contract: a file that is judged by the checks of version 1 is read behind eight numbers.
use mathlib.Core.Path.{sym, ◌∙◌}
use native.Mathlib.Omega.{arith}
use lib.ListN.{length}
use Rattle.little.specs.Little.{numbers_in}
use Rattle.trace.specs.Trace.{version1}
use Rattle.trace.specs.Read.{read_checks, whole_checks, read_trace, read_trace_of}
use Rattle.trace_read.proofs.Loads.{body_fine}
use Rattle.trace_read.proofs.trace_read.Goals as goal

pub read_judged-requires : goal.read_judged-requires
read_judged-requires c = (omega arith, λ e. body_fine c.args.bytes.now (sym c.judge-found.ensures ∙ e))

pub returns : goal.returns
unfolding read_trace_of read_trace whole_checks
returns c = c.read_judged.ensures (read_checks version1 (length c.args.bytes.now) (numbers_in c.args.bytes.now)) c.judge-found.ensures
