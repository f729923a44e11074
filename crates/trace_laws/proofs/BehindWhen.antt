-- The offsets of a file and what follows its header are refused with a code at a place exactly when the tables of Behind.antt give it, whatever the header's length is.
use mathlib.Core.Path.{◌≡◌, refl, sym, ap, subst, ◌∙◌}
use mathlib.Core.List.{List, [], ◌++◌}
use Prim.Native.Nat.{ℕ, ◌+◌, ◌*◌, ◌^◌, ◌<◌}
use native.Mathlib.Omega.{arith}
use lib.Dec.{ltb}
use lib.ListN.{length}
use borrow.Author.Tests.{le-leb, ltb-true, leb-true, eq-eqb, ne_eqb}
use Rattle.codes.specs.declared.Code.{Code}
use Rattle.codes.specs.declared.Code.TheVariants.{Short, Coord, Delta, Trail, Shape, Header}
use Rattle.writer.specs.Write.{Check, first_fault}
use Rattle.write_judge.specs.Verdict.{Fault}
use Rattle.little.specs.Little.{numbers_in}
use Rattle.trace.specs.Trace.{starts_from, deltas_from, coefficients_from, numbers_of, part, number_checks}
use Rattle.trace.specs.Read.{offset_checks, length_checks, misplaced, too_wild, part_checks, body_checks}
use Rattle.trace_judge.proofs.Faults.{offset_16, offset_20, offset_24, offset_28, length_short, length_trail, length_due, parts_shape, parts_start, parts_rest, body_length}
use Rattle.trace_laws.specs.Behind.{S, P, file_long, SummedBy, PlacedBy, OffsetRefusal, counts, starts, deltas, coefficients, BodyRefusal, short, trail, shape, coord, delta}
use Rattle.trace_laws.proofs.Clean.{right, wrong, is_right, is_wrong, start_is, delta_is, starts_length, deltas_length, inside_of, tame_of, starts_fine, fine_starts, due_is, summed_rest, none_outside, none_wild}
use Rattle.trace_laws.proofs.Firsts.{head_or, append_or, none_or, numbers_or, numbers_at}

module _ (H : ℕ) (Before : Type 0) (bytes : List ℕ) where
  abbrev N : List ℕ
  N = numbers_in bytes

  abbrev n : ℕ
  n = length bytes

  abbrev due : ℕ
  due = 4 * numbers_of H (S bytes) (P bytes)

  abbrev R : Code → ℕ → Type 0
  R = BodyRefusal H Before bytes

  abbrev O : Code → ℕ → Type 0
  O = OffsetRefusal H Before bytes

  five : 4 * H + 4 * S bytes ≡ 4 * starts_from H (S bytes)
  five = omega arith

  six : 4 * H + 12 * S bytes ≡ 4 * deltas_from H (S bytes)
  six = omega arith

  seven : 4 * H + 12 * S bytes + 8 * P bytes ≡ 4 * coefficients_from H (S bytes) (P bytes)
  seven = omega arith

  -- ---- from a fault to the table

  module _ (before : Before) (c : Code) (q : ℕ) where
    parts_to : n ≡ file_long H (S bytes) (P bytes) → first_fault (part_checks H (S bytes) (P bytes) N) ≡ Fault c q → R c q
    unfolding part_checks
    parts_to w e =
        head_or R c q _ Shape 0 _ e (λ t. shape before w (is_wrong _ _ t))
        (λ t r. summed_to (record { laid = before; whole = w; sums = is_right _ _ t }) r)
      where
        Starts : List Check
        Starts = number_checks misplaced Coord (starts_from H (S bytes)) (part (starts_from H (S bytes)) (2 * S bytes) N)

        Deltas : List Check
        Deltas = number_checks too_wild Delta (deltas_from H (S bytes)) (part (deltas_from H (S bytes)) (2 * P bytes) N)

        placed_to : PlacedBy H Before bytes → first_fault Deltas ≡ Fault c q → R c q
        placed_to p e =
            numbers_or R c q too_wild Delta 0 (part (deltas_from H (S bytes)) (2 * P bytes) N) (deltas_from H (S bytes)) e
            (λ i h f u. let g : i < 2 * P bytes = omega (arith, deltas_length H bytes w) in
            let at : 4 * H + 12 * S bytes + 4 * i ≡ 4 * (deltas_from H (S bytes) + i) = omega arith in
            subst (R Delta) at (delta p i g (λ k o. tame_of H bytes w k (omega arith) (f k o)) (leb-true (2 ^ 30) _ (sym (delta_is H bytes w i g) ∙ u))))

        summed_to : SummedBy H Before bytes → first_fault (Starts ++ Deltas) ≡ Fault c q → R c q
        summed_to m e =
            append_or R c q Starts Deltas e
            (λ f. numbers_or R c q misplaced Coord 0 (part (starts_from H (S bytes)) (2 * S bytes) N) (starts_from H (S bytes)) f
            (λ i h g u. let k : i < 2 * S bytes = omega (arith, starts_length H bytes w) in
            let at : 4 * H + 4 * S bytes + 4 * i ≡ 4 * (starts_from H (S bytes) + i) = omega arith in
            subst (R Coord) at (coord m i k (λ j o. inside_of H bytes w j (omega arith) (g j o)) (leb-true (2 ^ 23) _ (sym (start_is H bytes w i k) ∙ u)))))
            (λ f r. placed_to (record { summed = m; inside = fine_starts H bytes w f }) r)

    pub body_to : first_fault (body_checks H n N) ≡ Fault c q → R c q
    unfolding body_checks length_checks
    body_to e =
        append_or R c q (length_checks n due) (part_checks H (S bytes) (P bytes) N) e
        (λ f. head_or R c q (ltb n due) Short n _ f (λ t. short before (omega (arith, ltb-true n due t, due_is H Before bytes)))
        (λ t r. head_or R c q (ltb due n) Trail due [] r (λ u. subst (R Trail) (due_is H Before bytes) (trail before (omega (arith, ltb-true due n u, due_is H Before bytes)))) (λ u z. none_or R c q z)))
        (λ f r. parts_to (length_due n due f ∙ sym (due_is H Before bytes)) r)

    pub offsets_to : first_fault (offset_checks H N) ≡ Fault c q → O c q
    unfolding offset_checks
    offsets_to e =
        head_or O c q _ Header 16 _ e (λ t. counts before (is_wrong _ _ t))
        (λ a r. head_or O c q _ Header 20 _ r (λ t. starts before (is_right _ _ a) (λ z. is_wrong _ _ t (z ∙ five)))
        (λ b r2. head_or O c q _ Header 24 _ r2 (λ t. deltas before (is_right _ _ a) (is_right _ _ b ∙ sym five) (λ z. is_wrong _ _ t (z ∙ six)))
        (λ d r3. head_or O c q _ Header 28 [] r3 (λ t. coefficients before (is_right _ _ a) (is_right _ _ b ∙ sym five) (is_right _ _ d ∙ sym six) (λ z. is_wrong _ _ t (z ∙ seven)))
        (λ f z. none_or O c q z))))

  -- ---- from the table to a fault

  pub told_offset : (c : Code) (q : ℕ) → O c q → first_fault (offset_checks H N) ≡ Fault c q
  told_offset c q (counts o v) = sym (offset_16 H N (S bytes) (P bytes) refl refl (wrong _ _ v))
  told_offset c q (starts o a v) = sym (offset_20 H N (S bytes) (P bytes) refl refl (right _ _ a) (wrong _ _ (λ z. v (z ∙ sym five))))
  told_offset c q (deltas o a b v) = sym (offset_24 H N (S bytes) (P bytes) refl refl (right _ _ a) (right _ _ (b ∙ five)) (wrong _ _ (λ z. v (z ∙ sym six))))
  told_offset c q (coefficients o a b d v) =
      sym (offset_28 H N (S bytes) (P bytes) refl refl (right _ _ a) (right _ _ (b ∙ five)) (right _ _ (d ∙ six)) (wrong _ _ (λ z. v (z ∙ sym seven))))

  pub told_body : (c : Code) (q : ℕ) → R c q → first_fault (body_checks H n N) ≡ Fault c q
  told_body c q (short l h) = sym (body_length H n N (S bytes) (P bytes) refl refl Short n (sym (length_short n due (omega (arith, due_is H Before bytes)))))
  told_body c q (trail l h) =
      sym (body_length H n N (S bytes) (P bytes) refl refl Trail due (sym (length_trail n due (omega (arith, due_is H Before bytes)) (omega (arith, due_is H Before bytes)))))
      ∙ ap (Fault Trail) (sym (due_is H Before bytes))
  told_body c q (shape l w v) = sym (summed_rest H Before bytes w) ∙ sym (parts_shape H (S bytes) (P bytes) N (ne_eqb _ _ v))
  told_body c q (coord m k h f o) =
      let w = m.whole in
      let s = S bytes in
      let at : 4 * (starts_from H s + k) ≡ 4 * H + 4 * s + 4 * k = omega arith in
      let e = numbers_at misplaced Coord 0 (part (starts_from H s) (2 * s) N) (starts_from H s) k (omega (arith, starts_length H bytes w))
      (λ j g. none_outside H bytes w j (omega arith) (f j g)) (start_is H bytes w k h ∙ le-leb (2 ^ 23) _ o) in
      sym (summed_rest H Before bytes w) ∙ sym (parts_start H s (P bytes) N (eq-eqb _ _ m.sums) Coord (4 * (starts_from H s + k)) e) ∙ ap (Fault Coord) at
  told_body c q (delta p k h f o) =
      let m = p.summed in
      let w = m.whole in
      let s = S bytes in
      let at : 4 * (deltas_from H s + k) ≡ 4 * H + 12 * s + 4 * k = omega arith in
      let e = numbers_at too_wild Delta 0 (part (deltas_from H s) (2 * P bytes) N) (deltas_from H s) k (omega (arith, deltas_length H bytes w))
      (λ j g. none_wild H bytes w j (omega arith) (f j g)) (delta_is H bytes w k h ∙ le-leb (2 ^ 30) _ o) in
      sym (summed_rest H Before bytes w) ∙ sym (parts_rest H s (P bytes) N (eq-eqb _ _ m.sums) (starts_fine H bytes w p.inside)) ∙ e ∙ ap (Fault Delta) at

-- Assumes nothing.
