-- No fault of a file, and none of a description: the checks find nothing exactly when the facts of the tables hold.
use mathlib.Core.Path.{◌≡◌, refl, sym, ◌∙◌}
use mathlib.Core.Bool.{Bool, true, false, not}
use mathlib.Core.List.{List, []}
use Prim.Native.Nat.{ℕ, ◌+◌, ◌*◌, ◌^◌, ◌<◌}
use native.Mathlib.Omega.{arith}
use lib.Dec.{eqb, ltb, leb}
use lib.ListN.{length, get_or}
use lib.IntN.{nat_abs}
use lib.Signed.{mag}
use borrow.Author.Tests.{ltb-false, leb-true, leb-false, eq-eqb, ne_eqb, eqb-true, eqb-false, not-true, not-false}
use Rattle.codes.specs.declared.Code.TheVariants.{Short, Coord, Delta, Shape, Header}
use Rattle.writer.specs.Write.{first_fault}
use Rattle.write_judge.specs.Verdict.{Fine}
use Rattle.write_judge.proofs.Checks.{passed, both_fine}
use Rattle.write_laws.specs.Refusals.{NoneOf}
use Rattle.little.specs.Little.{numbers_in, signed_in}
use Rattle.trace.specs.Trace.{version1, starts_from, deltas_from, numbers_of, part, number_checks}
use Rattle.trace.specs.Read.{splines_in, points_in, version_checks, offset_checks, length_checks, misplaced, too_wild, part_checks, body_checks, read_checks}
use Rattle.trace.proofs.Checks.{fine_each, each_fine, part_at}
use Rattle.trace_judge.proofs.Faults.{held_length, offsets_fine, length_fine, length_due, parts_rest, body_rest, judge_body}
use Rattle.trace_laws.specs.Behind.{number, S, P, file_long, OutsideAt, WildAt, LaidBy, TamedBy}
use Rattle.trace_laws.specs.Refusals.{Opened, Laid, Tamed}

-- ---- tests and facts

pub right : (a b : ℕ) → a ≡ b → not (eqb a b) ≡ false
right a b e = rw (eq-eqb a b e)

pub wrong : (a b : ℕ) → (a ≡ b → ⊥) → not (eqb a b) ≡ true
wrong a b n = rw (ne_eqb a b n)

pub is_right : (a b : ℕ) → not (eqb a b) ≡ false → a ≡ b
is_right a b e = eqb-true a b (not-false _ e)

pub is_wrong : (a b : ℕ) → not (eqb a b) ≡ true → a ≡ b → ⊥
is_wrong a b e = eqb-false a b (not-true _ e)

-- ---- numbers of a file

module _ (H : ℕ) (bytes : List ℕ) (whole : length bytes ≡ file_long H (S bytes) (P bytes)) where
  abbrev N : List ℕ
  N = numbers_in bytes

  -- start number k, and double delta number k, as the checks look at them
  pub start_is : (k : ℕ) → k < 2 * S bytes → misplaced (get_or (part (starts_from H (S bytes)) (2 * S bytes) N) k 0) ≡ leb (2 ^ 23) (mag (signed_in (number bytes (H + S bytes + k))))
  unfolding misplaced
  start_is k h = rw (part_at (starts_from H (S bytes)) (2 * S bytes) N k h)

  pub delta_is : (k : ℕ) → k < 2 * P bytes → too_wild (get_or (part (deltas_from H (S bytes)) (2 * P bytes) N) k 0) ≡ leb (2 ^ 30) (nat_abs (signed_in (number bytes (H + 3 * S bytes + k))))
  unfolding too_wild
  delta_is k h = rw (part_at (deltas_from H (S bytes)) (2 * P bytes) N k h)

  pub starts_length : length (part (starts_from H (S bytes)) (2 * S bytes) N) ≡ 2 * S bytes
  starts_length = held_length bytes (starts_from H (S bytes)) (2 * S bytes) (omega arith)

  pub deltas_length : length (part (deltas_from H (S bytes)) (2 * P bytes) N) ≡ 2 * P bytes
  deltas_length = held_length bytes (deltas_from H (S bytes)) (2 * P bytes) (omega arith)

  pub inside_of : (k : ℕ) → k < 2 * S bytes → misplaced (get_or (part (starts_from H (S bytes)) (2 * S bytes) N) k 0) ≡ false → OutsideAt H bytes k → ⊥
  inside_of k h e o =
      let m = mag (signed_in (number bytes (H + S bytes + k))) in
      absurd (omega (arith, o, leb-false (2 ^ 23) m (sym (start_is k h) ∙ e)))

  pub tame_of : (k : ℕ) → k < 2 * P bytes → too_wild (get_or (part (deltas_from H (S bytes)) (2 * P bytes) N) k 0) ≡ false → WildAt H bytes k → ⊥
  tame_of k h e o =
      let m = nat_abs (signed_in (number bytes (H + 3 * S bytes + k))) in
      absurd (omega (arith, o, leb-false (2 ^ 30) m (sym (delta_is k h) ∙ e)))

  pub none_outside : (k : ℕ) → k < 2 * S bytes → (OutsideAt H bytes k → ⊥) → misplaced (get_or (part (starts_from H (S bytes)) (2 * S bytes) N) k 0) ≡ false
  none_outside k h n = go (leb (2 ^ 23) (mag (signed_in (number bytes (H + S bytes + k))))) (start_is k h) refl
    where
      go : (b : Bool) → misplaced (get_or (part (starts_from H (S bytes)) (2 * S bytes) N) k 0) ≡ leb (2 ^ 23) (mag (signed_in (number bytes (H + S bytes + k))))
          → leb (2 ^ 23) (mag (signed_in (number bytes (H + S bytes + k)))) ≡ b → misplaced (get_or (part (starts_from H (S bytes)) (2 * S bytes) N) k 0) ≡ false
      go true e t = absurd (n (leb-true (2 ^ 23) _ t))
      go false e t = e ∙ t

  pub none_wild : (k : ℕ) → k < 2 * P bytes → (WildAt H bytes k → ⊥) → too_wild (get_or (part (deltas_from H (S bytes)) (2 * P bytes) N) k 0) ≡ false
  none_wild k h n = go (leb (2 ^ 30) (nat_abs (signed_in (number bytes (H + 3 * S bytes + k))))) (delta_is k h) refl
    where
      go : (b : Bool) → too_wild (get_or (part (deltas_from H (S bytes)) (2 * P bytes) N) k 0) ≡ leb (2 ^ 30) (nat_abs (signed_in (number bytes (H + 3 * S bytes + k))))
          → leb (2 ^ 30) (nat_abs (signed_in (number bytes (H + 3 * S bytes + k)))) ≡ b → too_wild (get_or (part (deltas_from H (S bytes)) (2 * P bytes) N) k 0) ≡ false
      go true e t = absurd (n (leb-true (2 ^ 30) _ t))
      go false e t = e ∙ t

  pub starts_fine : NoneOf (2 * S bytes) (OutsideAt H bytes) → first_fault (number_checks misplaced Coord (starts_from H (S bytes)) (part (starts_from H (S bytes)) (2 * S bytes) N)) ≡ Fine
  starts_fine n = each_fine misplaced Coord _ 0 (starts_from H (S bytes)) (λ i h. let k : i < 2 * S bytes = omega (arith, starts_length) in none_outside i k (n i k))

  pub fine_starts : first_fault (number_checks misplaced Coord (starts_from H (S bytes)) (part (starts_from H (S bytes)) (2 * S bytes) N)) ≡ Fine → NoneOf (2 * S bytes) (OutsideAt H bytes)
  fine_starts e k h = inside_of k h (fine_each misplaced Coord _ 0 (starts_from H (S bytes)) e k (omega (arith, starts_length)))

  pub deltas_fine : NoneOf (2 * P bytes) (WildAt H bytes) → first_fault (number_checks too_wild Delta (deltas_from H (S bytes)) (part (deltas_from H (S bytes)) (2 * P bytes) N)) ≡ Fine
  deltas_fine n = each_fine too_wild Delta _ 0 (deltas_from H (S bytes)) (λ i h. let k : i < 2 * P bytes = omega (arith, deltas_length) in none_wild i k (n i k))

  pub fine_deltas : first_fault (number_checks too_wild Delta (deltas_from H (S bytes)) (part (deltas_from H (S bytes)) (2 * P bytes) N)) ≡ Fine → NoneOf (2 * P bytes) (WildAt H bytes)
  fine_deltas e k h = tame_of k h (fine_each too_wild Delta _ 0 (deltas_from H (S bytes)) e k (omega (arith, deltas_length)))

-- ---- a file in which nothing is found

module _ (H : ℕ) (Before : Type 0) (bytes : List ℕ) where
  pub laid_offsets : LaidBy H Before bytes → first_fault (offset_checks H (numbers_in bytes)) ≡ Fine
  laid_offsets l =
      sym (offsets_fine H (numbers_in bytes) (S bytes) (P bytes) refl refl (right _ _ l.counts) (right _ _ (l.starts ∙ omega arith)) (right _ _ (l.deltas ∙ omega arith))
      (right _ _ (l.coefficients ∙ omega arith)))

  pub offsets_laid : Before → first_fault (offset_checks H (numbers_in bytes)) ≡ Fine → LaidBy H Before bytes
  unfolding offset_checks
  offsets_laid o e =
      let a = passed _ Header 16 _ e in
      let b = passed _ Header 20 _ a.1 in
      let c = passed _ Header 24 _ b.1 in
      let d = passed _ Header 28 [] c.1 in
      record {
        opened = o;
        counts = is_right _ _ a.0;
        starts = is_right _ _ b.0 ∙ omega arith;
        deltas = is_right _ _ c.0 ∙ omega arith;
        coefficients = is_right _ _ d.0 ∙ omega arith;
      }

  pub due_is : file_long H (S bytes) (P bytes) ≡ 4 * numbers_of H (S bytes) (P bytes)
  due_is = omega arith

  pub summed_rest : length bytes ≡ file_long H (S bytes) (P bytes) → first_fault (part_checks H (S bytes) (P bytes) (numbers_in bytes)) ≡ first_fault (body_checks H (length bytes) (numbers_in bytes))
  summed_rest w =
      body_rest H (length bytes) (numbers_in bytes) (S bytes) (P bytes) refl refl
      (sym (length_fine (length bytes) (4 * numbers_of H (S bytes) (P bytes)) (omega (arith, w)) (omega (arith, w))))

  pub tamed_body : TamedBy H Before bytes → first_fault (body_checks H (length bytes) (numbers_in bytes)) ≡ Fine
  tamed_body t =
      let s = t.placed.summed in
      sym (summed_rest s.whole)
      ∙ sym (parts_rest H (S bytes) (P bytes) (numbers_in bytes) (eq-eqb _ _ s.sums) (starts_fine H bytes s.whole t.placed.inside))
      ∙ deltas_fine H bytes s.whole t.tame

  parts_tamed : Before → length bytes ≡ file_long H (S bytes) (P bytes) → first_fault (part_checks H (S bytes) (P bytes) (numbers_in bytes)) ≡ Fine → TamedBy H Before bytes
  unfolding part_checks
  parts_tamed l w e =
      let a = passed _ Shape 0 _ e in
      let b = both_fine (number_checks misplaced Coord (starts_from H (S bytes)) (part (starts_from H (S bytes)) (2 * S bytes) (numbers_in bytes))) _ a.1 in
      record {
        placed = record { summed = record { laid = l; whole = w; sums = is_right _ _ a.0 }; inside = fine_starts H bytes w b.0 };
        tame = fine_deltas H bytes w b.1;
      }

  pub body_tamed : Before → first_fault (body_checks H (length bytes) (numbers_in bytes)) ≡ Fine → TamedBy H Before bytes
  unfolding body_checks
  body_tamed l e =
      let n = length bytes in
      let ns = numbers_in bytes in
      let g = both_fine (length_checks n (4 * numbers_of H (splines_in ns) (points_in ns))) (part_checks H (splines_in ns) (points_in ns) ns) e in
      parts_tamed l (length_due n (4 * numbers_of H (splines_in ns) (points_in ns)) g.0 ∙ sym due_is) g.1

-- version 1
module _ (bytes : List ℕ) where
  pub tamed_fine : Tamed bytes → first_fault (read_checks version1 (length bytes) (numbers_in bytes)) ≡ Fine
  tamed_fine t =
      let l = t.placed.summed.laid in
      sym (judge_body (length bytes) (numbers_in bytes) l.opened.long (right _ _ l.opened.version) (laid_offsets 8 (Opened bytes) bytes l)) ∙ tamed_body 8 (Laid bytes) bytes t

  pub fine_tamed : first_fault (read_checks version1 (length bytes) (numbers_in bytes)) ≡ Fine → Tamed bytes
  unfolding read_checks version_checks
  fine_tamed e =
      let n = length bytes in
      let ns = numbers_in bytes in
      let a = passed (ltb n 32) Short n _ e in
      let b = passed _ Header 0 _ a.1 in
      let d = both_fine (offset_checks 8 ns) (body_checks 8 n ns) b.1 in
      let l = offsets_laid 8 (Opened bytes) bytes (record { long = ltb-false n 32 a.0; version = is_right _ _ b.0 }) d.0 in
      body_tamed 8 (Laid bytes) bytes l d.1

-- Assumes nothing.
