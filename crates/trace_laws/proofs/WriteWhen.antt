-- `trace_write` refuses with a code at a place exactly when the table of writing gives it, and writes exactly when it gives none.
use mathlib.Core.Path.{◌≡◌, refl, sym, ap, subst, ◌∙◌}
use mathlib.Core.Bool.{true, false, not}
use mathlib.Core.List.{List, [], ◌∷◌, ◌++◌, map}
use mathlib.Core.Logic.{◌↔◌}
use Prim.Native.Nat.{ℕ, ◌*◌, ◌<◌}
use native.Mathlib.Omega.{arith}
use lib.Dec.{T, ltb}
use lib.ListN.{length}
use lib.IntN.{ℤ}
use lib.Ieee.{Float}
use borrow.Author.Tests.{lt-ltb, le-ltb, ltb-true, ltb-false, not-true, not-false}
use Rattle.codes.proofs.Refusals.{same_refusal}
use Rattle.codes.specs.declared.Code.{Code}
use Rattle.codes.specs.declared.Code.TheVariants.{Room, Shape}
use Rattle.shape.specs.Shape.{points_of, Shaped}
use Rattle.shape.proofs.Shape.{is_shaped, shaped_is, not_shaped}
use Rattle.list.specs.List.{described}
use Rattle.writer.specs.Write.{Check, check, first_fault, misshapen, whole_of, WriteOutcome, outcome}
use Rattle.write_judge.specs.Verdict.{Verdict}
use Rattle.write_judge.specs.Verdict.{Fine, Fault}
use Rattle.writer.specs.WriteAnswer.{Done, Refused}
use Rattle.write_judge.proofs.Checks.{fails, passes, passed, faults_before, fine_before, both_fine}
use Rattle.write_laws.specs.Refusals.{WriteRefused}
use Rattle.trace.specs.Trace.{version1, numbers_of, file_of}
use Rattle.trace.specs.Write.{write_checks, write_trace_of}
use Rattle.trace_write.proofs.Puts.{file_size_lem}
use Rattle.trace_laws.specs.Behind.{PutRefusal}
use Rattle.trace_laws.specs.Behind as behind
use Rattle.trace_laws.specs.Refusals.{file_size, Writable, TraceWriteRefusal, TraceAccepted}
use Rattle.trace_laws.specs.Refusals as told
use Rattle.trace_laws.proofs.Firsts.{head_or, append_or, none_or}
use Rattle.trace_laws.proofs.PutWhen.{puts_writable, writable_puts, puts_to, told_puts}

-- ---- from a fault to the table

module _ (ns : List ℕ) (ss : List Float) (ds cs : List ℤ) where
  abbrev s : ℕ
  s = length ns

  abbrev p : ℕ
  p = points_of ns

  pub due_is : file_size s p ≡ 4 * numbers_of 8 s p
  due_is = omega arith

  pub shaped_of : misshapen ns ss ds cs ≡ false → Shaped ns ss ds cs
  unfolding misshapen
  shaped_of e = shaped_is ns ss ds cs (not-false _ e)

  pub unshaped_of : misshapen ns ss ds cs ≡ true → Shaped ns ss ds cs → ⊥
  unfolding misshapen
  unshaped_of e h = subst T (sym (is_shaped ns ss ds cs h) ∙ not-true _ e) tt

  pub of_shaped : Shaped ns ss ds cs → misshapen ns ss ds cs ≡ false
  unfolding misshapen
  of_shaped h = ap not (is_shaped ns ss ds cs h)

  pub of_unshaped : (Shaped ns ss ds cs → ⊥) → misshapen ns ss ds cs ≡ true
  unfolding misshapen
  of_unshaped n = ap not (not_shaped ns ss ds cs n)

  eight_little : 8 < 16
  eight_little = omega arith

  fine_writable : first_fault (write_checks 8 ns ss ds cs) ≡ Fine → Writable ns ss ds cs
  unfolding write_checks
  fine_writable e = let a = passed (misshapen ns ss ds cs) Shape 0 _ e in puts_writable 8 eight_little (Shaped ns ss ds cs) ns ss ds (shaped_of a.0) a.1

  writable_fine : Writable ns ss ds cs → first_fault (write_checks 8 ns ss ds cs) ≡ Fine
  unfolding write_checks
  writable_fine w =
      passes (misshapen ns ss ds cs) Shape 0 _ (of_shaped w.fitting.headable.shaped) ∙ writable_puts 8 eight_little (Shaped ns ss ds cs) ns ss ds w

  module _ (room : ℕ) where
    abbrev R : Code → ℕ → Type 0
    R = TraceWriteRefusal ns ss ds cs room

    abbrev Last : List Check
    Last = check (ltb room (4 * numbers_of 8 s p)) Room 0 ∷ []

    -- the table of Behind.antt at version 1
    put_row : (c : Code) (q : ℕ) → PutRefusal 8 (Shaped ns ss ds cs) ns ss ds c q → R c q
    put_row c q (behind.splines h a) = told.splines h a
    put_row c q (behind.points h a b) = told.points h a b
    put_row c q (behind.PutRefusal.starts h a b d) = told.starts h a b d
    put_row c q (behind.PutRefusal.deltas h b d f) = told.deltas h b d f
    put_row c q (behind.PutRefusal.coefficients h b d f) = told.coefficients h b d f
    put_row c q (behind.PutRefusal.coord h k l n m) = told.coord h k l n m
    put_row c q (behind.PutRefusal.delta f k l n m) = told.delta f k l n m

    module _ (c : Code) (q : ℕ) where
      content_to : first_fault (write_checks 8 ns ss ds cs) ≡ Fault c q → R c q
      unfolding write_checks
      content_to e =
          head_or R c q (misshapen ns ss ds cs) Shape 0 _ e (λ t. told.shape (unshaped_of t))
          (λ a r. put_row c q (puts_to 8 eight_little (Shaped ns ss ds cs) ns ss ds (shaped_of a) c q r))

      fault_told : first_fault (write_checks 8 ns ss ds cs ++ Last) ≡ Fault c q → R c q
      fault_told e =
          append_or R c q (write_checks 8 ns ss ds cs) Last e content_to
          (λ f r. head_or R c q (ltb room (4 * numbers_of 8 s p)) Room 0 [] r
          (λ t. told.room (fine_writable f) (omega (arith, due_is, ltb-true room (4 * numbers_of 8 s p) t))) (λ t z. none_or R c q z))

    -- ---- from the table to a fault

    content_from : (c : Code) (q : ℕ) → first_fault (write_checks 8 ns ss ds cs) ≡ Fault c q → first_fault (write_checks 8 ns ss ds cs ++ Last) ≡ Fault c q
    content_from c q e = faults_before (write_checks 8 ns ss ds cs) Last c q e

    put_from : (c : Code) (q : ℕ) → Shaped ns ss ds cs → PutRefusal 8 (Shaped ns ss ds cs) ns ss ds c q → first_fault (write_checks 8 ns ss ds cs ++ Last) ≡ Fault c q
    unfolding write_checks
    put_from c q h r =
        content_from c q (passes (misshapen ns ss ds cs) Shape 0 _ (of_shaped h) ∙ told_puts 8 eight_little (Shaped ns ss ds cs) ns ss ds c q r)

    unshaped_from : (Shaped ns ss ds cs → ⊥) → first_fault (write_checks 8 ns ss ds cs ++ Last) ≡ Fault Shape 0
    unfolding write_checks
    unshaped_from n = content_from Shape 0 (fails (misshapen ns ss ds cs) Shape 0 _ (of_unshaped n))

    told_fault : (c : Code) (q : ℕ) → R c q → first_fault (write_checks 8 ns ss ds cs ++ Last) ≡ Fault c q
    told_fault c q (told.shape n) = unshaped_from n
    told_fault c q (told.splines h a) = put_from c q h (behind.splines h a)
    told_fault c q (told.points h a b) = put_from c q h (behind.points h a b)
    told_fault c q (told.starts h a b d) = put_from c q h (behind.PutRefusal.starts h a b d)
    told_fault c q (told.deltas h b d f) = put_from c q h (behind.PutRefusal.deltas h b d f)
    told_fault c q (told.coefficients h b d f) = put_from c q h (behind.PutRefusal.coefficients h b d f)
    told_fault c q (told.coord h k l n m) = put_from c q h.shaped (behind.PutRefusal.coord h k l n m)
    told_fault c q (told.delta f k l n m) = put_from c q f.headable.shaped (behind.PutRefusal.delta f k l n m)
    told_fault c q (told.room w h) =
        fine_before (write_checks 8 ns ss ds cs) Last (writable_fine w) ∙ fails (ltb room (4 * numbers_of 8 s p)) Room 0 [] (lt-ltb room (4 * numbers_of 8 s p) (omega (arith, due_is)))

    -- ---- the answers

    module _ (a : ℤ) where
      abbrev File : List ℕ
      File = file_of version1 [] (described a (map whole_of ss) ns ds cs)

      answer_of_lem : (c : Code) (q : ℕ) → (write_trace_of ns ss ds cs a room).answer ≡ Refused c q → first_fault (write_checks 8 ns ss ds cs ++ Last) ≡ Fault c q
      unfolding write_trace_of
      answer_of_lem c q e = go (first_fault (write_checks 8 ns ss ds cs ++ Last)) refl e
        where
          go : (v : Verdict) → first_fault (write_checks 8 ns ss ds cs ++ Last) ≡ v → (outcome room File v).answer ≡ Refused c q
              → first_fault (write_checks 8 ns ss ds cs ++ Last) ≡ Fault c q
          go Fine f e = let z : ◌≡◌ {A = ℕ} 0 1 = cc in absurd (omega arith)
          go (Fault k i) f e =
              let same = same_refusal e in
              f ∙ ap (λ (d : Code). Fault d i) same.0 ∙ ap (Fault c) same.1

      refused_so : (c : Code) (q : ℕ) → R c q → write_trace_of ns ss ds cs a room ≡ outcome room File (Fault c q)
      unfolding write_trace_of
      refused_so c q r = ap (outcome room File) (told_fault c q r)

      -- refused exactly so
      pub write_exactly : (c : Code) (q : ℕ) → (write_trace_of ns ss ds cs a room).answer ≡ Refused c q ↔ R c q
      write_exactly c q = (λ e. fault_told c q (answer_of_lem c q e), λ r. ap (λ (o : WriteOutcome). o.answer) (refused_so c q r))

      pub write_refused : (c : Code) (q : ℕ) (o : WriteOutcome) → o ≡ write_trace_of ns ss ds cs a room → R c q → WriteRefused room c q o
      write_refused c q o e r =
          let x = e ∙ refused_so c q r in
          record { answer = ap (λ (u : WriteOutcome). u.answer) x; told = ap (λ (u : WriteOutcome). u.told) x; list = ap (λ (u : WriteOutcome). u.list) x }

      -- and done exactly where nothing is given
      done_of : (n : ℕ) → (write_trace_of ns ss ds cs a room).answer ≡ Done n → TraceAccepted ns ss ds cs room n
      unfolding write_trace_of
      done_of n e = go (first_fault (write_checks 8 ns ss ds cs ++ Last)) refl e
        where
          go : (v : Verdict) → first_fault (write_checks 8 ns ss ds cs ++ Last) ≡ v → (outcome room File v).answer ≡ Done n → TraceAccepted ns ss ds cs room n
          go (Fault k i) f e = let z : ◌≡◌ {A = ℕ} 0 1 = cc in absurd (omega arith)
          go Fine f e =
              let b = both_fine (write_checks 8 ns ss ds cs) Last f in
              let w = fine_writable b.0 in
              let h = w.fitting.headable.shaped in
              let t = passed (ltb room (4 * numbers_of 8 s p)) Room 0 [] b.1 in
              let k : length File ≡ n = cc in
              record {
                writable = w;
                held = omega (arith, due_is, ltb-false room (4 * numbers_of 8 s p) t.0);
                all = sym k ∙ file_size_lem version1 [] ns ss ds cs a refl h.starts h.deltas h.coefficients ∙ sym due_is;
              }

      of_done : (n : ℕ) → TraceAccepted ns ss ds cs room n → (write_trace_of ns ss ds cs a room).answer ≡ Done n
      unfolding write_trace_of first_fault
      of_done n t =
          let h = t.writable.fitting.headable.shaped in
          let x = fine_before (write_checks 8 ns ss ds cs) Last (writable_fine t.writable) in
          let y = passes (ltb room (4 * numbers_of 8 s p)) Room 0 [] (le-ltb room (4 * numbers_of 8 s p) (omega (arith, due_is, t.held))) in
          ap (λ (v : Verdict). (outcome room File v).answer) (x ∙ y)
          ∙ ap Done (file_size_lem version1 [] ns ss ds cs a refl h.starts h.deltas h.coefficients ∙ sym due_is ∙ sym t.all)

      pub write_done : (n : ℕ) → (write_trace_of ns ss ds cs a room).answer ≡ Done n ↔ TraceAccepted ns ss ds cs room n
      write_done n = (λ e. done_of n e, λ t. of_done n t)

-- Assumes nothing.
