-- `polyline_read::read_pairs` meets its contract: the pairs decide, then the room.
use mathlib.Core.Path.{refl}
use borrow.Author.Rules.{rules}
use native.Mathlib.Omega.{arith}
use lib.ListN.{length}
use Rattle.polyline_read.proofs.Answers.{scanned, halted, never-empty, first_is, first-valid, room-lacks, all-fits, text-refused, text-done}
use Rattle.polyline_read.proofs.read_pairs.Goals as goal

pub returns-in_err-run : goal.returns-in_err-run
returns-in_err-run c =
    text-refused _ _ _ _ _ _ _ (halted (length c.args.start.now) (length c.args.deltas.now) c.args.text.now _ _ _ (rw c.in_err-run.was at c.scan.ensures)) (search rules)

pub returns-then-start-lt2 : goal.returns-then-start-lt2
returns-then-start-lt2 c =
    let g = scanned c.args.text.now _ _ _ (rw c.in_ok-run.was at c.scan.ensures) in
    text-refused _ _ _ _ _ _ _ (room-lacks (length c.args.start.now) (length c.args.deltas.now) c.args.text.now _ g.walk _ _ g.held c.scan.auto.deltas c.then-start-lt2.either) refl

pub returns-in_default : goal.returns-in_default
returns-in_default c =
    let g = scanned c.args.text.now _ _ _ (rw c.in_ok-run.was at c.scan.ensures) in
    absurd (never-empty _ _ _ _ g c.in_default.is)

pub put_start-requires : goal.put_start-requires
put_start-requires c =
    let g = scanned c.args.text.now _ _ _ (rw c.in_ok-run.was at c.scan.ensures) in
    (first-valid _ _ _ _ g _ c.in-Some.is, omega arith)

pub returns : goal.returns
returns c =
    let g = scanned c.args.text.now _ _ _ (rw c.in_ok-run.was at c.scan.ensures) in
    text-done _ _ _ _ _ _ _ (all-fits (length c.args.start.now) (length c.args.deltas.now) c.args.text.now _ g.walk (omega arith) _ g.held (omega (arith, c.if-deltas-run.false, c.scan.auto.deltas))) (omega (arith, g.held)) (rw (first_is _ _ _ _ g _ c.in-Some.is) at c.put_start.ensures) g.stored
