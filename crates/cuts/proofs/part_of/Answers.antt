-- The columns that the segment has, cut to the part; none where it is hidden, or where none are left.
use mathlib.Core.Path.{refl, sym, ap, ◌∙◌}
use mathlib.Core.Bool.{Bool, false, cond}
use Prim.Native.Nat.{◌+◌}
use native.Mathlib.Omega.{arith}
use Rattle.segments.specs.Ranges.{has_column}
use Rattle.cuts.proofs.Cuts.{cuts_none, has_cut, has_none}
use Rattle.cuts.proofs.part_of.Goals as goal

pub returns-then-hidden : goal.returns-then-hidden
returns-then-hidden c =
    let A = c.args in
    let P = A.part in
    cuts_none _ (λ x. cond A.hidden false (has_column A.segment x)) P.x0 P.n refl refl (λ k l. ap (λ (b : Bool). cond b false (has_column A.segment (P.x0 + k))) c.if-hidden.true)

pub returns-then-past-first : goal.returns-then-past-first
returns-then-past-first c =
    let A = c.args in
    let P = A.part in
    cuts_none _ (λ x. cond A.hidden false (has_column A.segment x)) P.x0 P.n refl refl (λ k l. ap (λ (b : Bool). cond b false (has_column A.segment (P.x0 + k))) c.if-hidden.false ∙ has_none A.segment _ _ _ P.x0 P.n c.columns-columns.ensures P.in_image.0 c.max-first.ensures c.min-past.ensures c.if-past-first.true k l)

pub returns : goal.returns
returns c =
    let A = c.args in
    let P = A.part in
    record {
      begins = omega arith;
      ascends = omega arith;
      ends = omega arith;
      passes = λ k h. has_cut A.segment _ _ _ P.x0 P.n c.columns-columns.ensures P.in_image.0 c.max-first.ensures c.min-past.ensures k h ∙ sym (ap (λ (b : Bool). cond b false (has_column A.segment (P.x0 + k))) c.if-hidden.false);
    }
