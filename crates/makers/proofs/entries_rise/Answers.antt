use mathlib.Core.Path.{sym, ap, ◌∙◌}
use native.Mathlib.Omega.{arith}
use mathlib.Core.List.{List}
use Prim.Native.Nat.{ℕ}
use lib.ListN.{length, get_or}
use borrow.Author.Tests.{le-leb, lt-leb, lt-ltb, le-ltb}
use Rattle.rows.specs.Rows.{in_row}
use Rattle.checks.proofs.Entries.{slice_whole}
use Rattle.makers.specs.Steps.{rising}
use Rattle.makers.proofs.Rows.{rising_next, rising_turn, rising_none}
use Rattle.makers.proofs.entries_rise.Goals as goal

pub loop-i-init : goal.loop-i-init
loop-i-init c =
    let A = c.args in
    sym (ap (λ (q : List ℕ). rising (λ i. in_row A.table.now.segments.now i A.y) A.table.now.segment_count 0 q) (slice_whole A.listed.now))

pub returns-then-i-least : goal.returns-then-i-least
returns-then-i-least c =
    let A = c.args in
    let l = c.loop-i in
    sym (l.invariant ∙ rising_next _ _ l.least l.i-index (length A.listed.now) A.listed.now (omega arith) (omega arith) ∙ rw (lt-leb l.least (get_or A.listed.now l.i-index 0) (omega arith)))

pub returns-then-table-i : goal.returns-then-table-i
returns-then-table-i c =
    let A = c.args in
    let l = c.loop-i in
    sym (l.invariant ∙ rising_next _ _ l.least l.i-index (length A.listed.now) A.listed.now (omega arith) (omega arith)
    ∙ rw (le-leb l.least (get_or A.listed.now l.i-index 0) (omega arith), le-ltb (get_or A.listed.now l.i-index 0) A.table.now.segment_count (omega arith)))

pub returns-then-not-has_row : goal.returns-then-not-has_row
returns-then-not-has_row c =
    let A = c.args in
    let l = c.loop-i in
    sym (l.invariant ∙ rising_next _ _ l.least l.i-index (length A.listed.now) A.listed.now (omega arith) (omega arith)
    ∙ rw (le-leb l.least (get_or A.listed.now l.i-index 0) (omega arith), lt-ltb (get_or A.listed.now l.i-index 0) A.table.now.segment_count (omega arith), sym c.has_row.ensures ∙ c.if-not-has_row.true))

pub loop-i-preserved : goal.loop-i-preserved
loop-i-preserved c =
    let A = c.args in
    let l = c.loop-i in
    l.invariant
    ∙ rising_turn (λ i. in_row A.table.now.segments.now i A.y) A.table.now.segment_count l.least l.i-index (length A.listed.now) A.listed.now (omega arith) (omega arith) (omega arith) (omega arith)
    (sym c.has_row.ensures ∙ c.if-not-has_row.false) (omega arith)

pub returns : goal.returns
returns c =
    let A = c.args in
    let l = c.loop-i in
    sym (l.invariant ∙ rising_none _ _ l.least l.i-index (length A.listed.now) A.listed.now (omega arith) (omega arith))
