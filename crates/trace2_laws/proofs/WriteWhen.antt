-- `trace_write2` refuses with a code at a place exactly when the table of writing gives it, and writes exactly when it gives none.
use mathlib.Core.Path.{◌≡◌, refl, sym, ap, subst, ◌∙◌}
use mathlib.Core.Bool.{Bool, true, false}
use mathlib.Core.Logic.{◌↔◌, inl, inr}
use mathlib.Core.List.{List, [], ◌∷◌, ◌++◌, map}
use Prim.Native.Nat.{ℕ, ◌*◌, ◌<◌}
use native.Mathlib.Omega.{arith}
use lib.Dec.{T, eqb, ltb}
use lib.ListN.{length}
use lib.IntN.{ℤ}
use lib.Ieee.{Float}
use borrow.Author.Tests.{lt-ltb, le-ltb, ltb-true, ltb-false, eq-eqb, ne_eqb, eqb-true}
use Rattle.codes.proofs.Refusals.{same_refusal}
use Rattle.codes.specs.declared.Code.{Code}
use Rattle.codes.specs.declared.Code.TheVariants.{Room, Shape, Header, Edition}
use Rattle.shape.specs.Shape.{points_of, Shaped}
use Rattle.list.specs.List.{described}
use Rattle.writer.specs.Write.{Check, check, first_fault, misshapen, whole_of, WriteOutcome, outcome}
use Rattle.write_judge.specs.Verdict.{Verdict}
use Rattle.write_judge.specs.Verdict.{Fine, Fault}
use Rattle.writer.specs.WriteAnswer.{Done, Refused}
use Rattle.write_judge.proofs.Checks.{fails, passes, passed, faults_before, fine_before, both_fine}
use Rattle.write_laws.specs.Refusals.{WriteRefused}
use Rattle.trace.specs.Trace.{version1, numbers_of, file_of}
use Rattle.trace.specs.Write.{header_checks, value_checks}
use Rattle.trace_write.proofs.Puts.{file_size_lem}
use Rattle.trace_laws.specs.Behind.{file_long, WritableBy, PutRefusal}
use Rattle.trace_laws.specs.Behind as behind
use Rattle.trace_laws.proofs.Firsts.{head_or, append_or, none_or}
use Rattle.trace_laws.proofs.PutWhen.{puts_writable, writable_puts, puts_to, told_puts}
use Rattle.trace_laws.proofs.WriteWhen.{shaped_of, unshaped_of, of_shaped, of_unshaped}
use Rattle.trace2.specs.Editions.{unknown, version2, layout_of, more_of, header_long}
use Rattle.trace2.specs.Write.{barred, write_checks2, write_file_of}
use Rattle.trace2.proofs.Editions.{one_known, two_known, known_is, unknown_not, barred_unknown, barred_first, barred_other, free_known, free_first}
use Rattle.trace2_laws.specs.Refusals.{Known, Unknown, Barred, none, second_in_first, Holds, Open, FileWriteRefusal, shape, put, FileAccepted}
use Rattle.trace2_laws.specs.Refusals as told
use Rattle.trace2_laws.proofs.ReadWhen.{known_told, unknown_told}

-- ---- versions and editions, as tests and in words

module _ (v e : ℕ) where
  barred_so : barred v e ≡ true → Barred v e
  barred_so h = go (unknown e) refl
    where
      go : (b : Bool) → unknown e ≡ b → Barred v e
      go true u = none (unknown_not e u)
      go false u = by (eqb v 1) refl
        where
          by : (b : Bool) → eqb v 1 ≡ b → Barred v e
          by true x = let o = eqb-true v 1 x in second_in_first o (eqb-true e 2 (barred_first v e u o ∙ h))
          by false x = absurd (subst T (sym h ∙ sym (barred_other v e u (λ o. subst T (sym (eq-eqb v 1 o) ∙ x) tt))) tt)

  so_barred : Barred v e → barred v e ≡ true
  so_barred (none u) = sym (barred_unknown v e (unknown_told e u))
  so_barred (second_in_first o t) = sym (barred_first v e (known_told e (inr t)) o) ∙ eq-eqb e 2 t

  pub free_so : barred v e ≡ false → Barred v e → ⊥
  free_so h b = subst T (sym (so_barred b) ∙ h) tt

  so_free : (Barred v e → ⊥) → barred v e ≡ false
  so_free n = go (barred v e) refl
    where
      go : (b : Bool) → barred v e ≡ b → barred v e ≡ false
      go true h = absurd (n (barred_so h))
      go false h = h

  -- a version that holds its edition passes both checks, and has so many numbers in its header
  pub holds_free : (h : ℕ) → Holds v e h → (barred v e ≡ false) × (unknown v ≡ false) × (header_long v ≡ h) × (h < 16)
  holds_free h (told.Holds.first o w) = (
    sym (barred_first v e (known_told e (inl w)) o) ∙ ne_eqb e 2 (λ t. omega (arith, t, w)),
    sym (one_known v o),
    rw o,
    omega arith,
  )
  holds_free h (told.Holds.second o k) = (sym (barred_other v e (known_told e k) (λ t. omega (arith, t, o))), sym (two_known v o), rw o, omega arith)

  -- and what passes both is held by version 1 or by version 2
  pub held : {X : Type 0} → barred v e ≡ false → unknown v ≡ false → ((h : ℕ) → Holds v e h → X) → X
  held {X} b u f = go (known_is v u)
    where
      go : Known v → X
      go (inl o) = f 8 (told.Holds.first o (free_first v e b o))
      go (inr o) = f 9 (told.Holds.second o (known_is e (free_known v e b)))

-- ---- from a fault to the table

module _ (ns : List ℕ) (ss : List Float) (ds cs : List ℤ) (v e : ℕ) where
  abbrev s : ℕ
  s = length ns

  abbrev p : ℕ
  p = points_of ns

  abbrev Content : List Check
  Content = write_checks2 v e ns ss ds cs

  abbrev Puts : ℕ → List Check
  Puts h = header_checks h s p ++ value_checks h s ss ds

  -- once the lengths agree and the version holds the edition
  open_rest : (h : ℕ) → Open ns ss ds cs v e h → first_fault Content ≡ first_fault (Puts h)
  unfolding write_checks2
  open_rest h o =
      let k = holds_free v e h o.holds in
      passes _ Shape 0 _ (of_shaped ns ss ds cs o.shaped) ∙ passes _ Edition 32 _ k.0 ∙ passes _ Header 0 _ k.1 ∙ ap (λ (t : ℕ). first_fault (Puts t)) k.2

  writable_fine : (h : ℕ) → WritableBy h (Open ns ss ds cs v e h) ns ss ds → first_fault Content ≡ Fine
  writable_fine h w =
      let o = w.fitting.headable.shaped in
      open_rest h o ∙ writable_puts h (holds_free v e h o.holds).3 (Open ns ss ds cs v e h) ns ss ds w

  -- nothing was found
  record Fit : Type 0 where
    pub header : ℕ
    pub writable : WritableBy header (Open ns ss ds cs v e header) ns ss ds

  fine_writable : first_fault Content ≡ Fine → Fit
  unfolding write_checks2
  fine_writable f =
      let a = passed (misshapen ns ss ds cs) Shape 0 _ f in
      let b = passed (barred v e) Edition 32 _ a.1 in
      let d = passed (unknown v) Header 0 _ b.1 in
      held v e b.0 d.0 (λ h k.
      let o : Open ns ss ds cs v e h = record { shaped = shaped_of ns ss ds cs a.0; holds = k } in
      let i = holds_free v e h k in
      record { header = h; writable = puts_writable h i.3 (Open ns ss ds cs v e h) ns ss ds o (sym (ap (λ (t : ℕ). first_fault (Puts t)) i.2) ∙ d.1) })

  module _ (room : ℕ) where
    abbrev R : Code → ℕ → Type 0
    R = FileWriteRefusal ns ss ds cs v e room

    abbrev Due : ℕ
    Due = 4 * numbers_of (header_long v) s p

    abbrev Last : List Check
    Last = check (ltb room Due) Room 0 ∷ []

    due_is : (h : ℕ) → header_long v ≡ h → Due ≡ file_long h s p
    due_is h e = rw e (omega arith)

    module _ (c : Code) (q : ℕ) where
      content_to : first_fault Content ≡ Fault c q → R c q
      unfolding write_checks2
      content_to f =
          head_or R c q (misshapen ns ss ds cs) Shape 0 _ f (λ t. shape (unshaped_of ns ss ds cs t))
          (λ a r. let g = shaped_of ns ss ds cs a in
          head_or R c q (barred v e) Edition 32 _ r (λ t. told.FileWriteRefusal.edition g (barred_so v e t))
          (λ b r2. head_or R c q (unknown v) Header 0 _ r2 (λ t. told.FileWriteRefusal.version g (free_so v e b) (unknown_not v t))
          (λ d r3. held v e b d (λ h k.
          let i = holds_free v e h k in
          put (puts_to h i.3 (Open ns ss ds cs v e h) ns ss ds (record { shaped = g; holds = k }) c q (sym (ap (λ (t : ℕ). first_fault (Puts t)) i.2) ∙ r3))))))

      fault_told : first_fault (Content ++ Last) ≡ Fault c q → R c q
      fault_told f =
          append_or R c q Content Last f content_to
          (λ g r. head_or R c q (ltb room Due) Room 0 [] r
          (λ t. let k = fine_writable g in
          let o = k.writable.fitting.headable.shaped in
          told.FileWriteRefusal.room k.writable (omega (arith, ltb-true room Due t, due_is k.header (holds_free v e k.header o.holds).2))) (λ t z. none_or R c q z))

    -- ---- from the table to a fault

    put_open : (h : ℕ) (c : Code) (q : ℕ) → PutRefusal h (Open ns ss ds cs v e h) ns ss ds c q → Open ns ss ds cs v e h
    put_open h c q (behind.splines o a) = o
    put_open h c q (behind.points o a b) = o
    put_open h c q (behind.PutRefusal.starts o a b d) = o
    put_open h c q (behind.PutRefusal.deltas o b d f) = o
    put_open h c q (behind.PutRefusal.coefficients o b d f) = o
    put_open h c q (behind.PutRefusal.coord a k l n m) = a.shaped
    put_open h c q (behind.PutRefusal.delta f k l n m) = f.headable.shaped

    told_content : (c : Code) (q : ℕ) → first_fault Content ≡ Fault c q → first_fault (Content ++ Last) ≡ Fault c q
    told_content c q f = faults_before Content Last c q f

    shape_from : (Shaped ns ss ds cs → ⊥) → first_fault Content ≡ Fault Shape 0
    unfolding write_checks2
    shape_from n = fails _ Shape 0 _ (of_unshaped ns ss ds cs n)

    edition_from : Shaped ns ss ds cs → Barred v e → first_fault Content ≡ Fault Edition 32
    unfolding write_checks2
    edition_from g b = passes _ Shape 0 _ (of_shaped ns ss ds cs g) ∙ fails _ Edition 32 _ (so_barred v e b)

    version_from : Shaped ns ss ds cs → (Barred v e → ⊥) → Unknown v → first_fault Content ≡ Fault Header 0
    unfolding write_checks2
    version_from g b u = passes _ Shape 0 _ (of_shaped ns ss ds cs g) ∙ passes _ Edition 32 _ (so_free v e b) ∙ fails _ Header 0 _ (unknown_told v u)

    told_fault : (c : Code) (q : ℕ) → R c q → first_fault (Content ++ Last) ≡ Fault c q
    told_fault c q (shape n) = told_content c q (shape_from n)
    told_fault c q (told.FileWriteRefusal.edition g b) = told_content c q (edition_from g b)
    told_fault c q (told.FileWriteRefusal.version g b u) = told_content c q (version_from g b u)
    told_fault c q (put {h} r) =
        let o = put_open h c q r in
        told_content c q (open_rest h o ∙ told_puts h (holds_free v e h o.holds).3 (Open ns ss ds cs v e h) ns ss ds c q r)
    told_fault c q (told.FileWriteRefusal.room {h} w l) =
        let o = w.fitting.headable.shaped in
        fine_before Content Last (writable_fine h w) ∙ fails (ltb room Due) Room 0 [] (lt-ltb room Due (omega (arith, l, due_is h (holds_free v e h o.holds).2)))

    -- ---- the answers

    module _ (a : ℤ) where
      abbrev File : List ℕ
      File = file_of (layout_of v) (more_of v e) (described a (map whole_of ss) ns ds cs)

      answer_of_lem : (c : Code) (q : ℕ) → (write_file_of ns ss ds cs a v e room).answer ≡ Refused c q → first_fault (Content ++ Last) ≡ Fault c q
      unfolding write_file_of
      answer_of_lem c q f = go (first_fault (Content ++ Last)) refl f
        where
          go : (x : Verdict) → first_fault (Content ++ Last) ≡ x → (outcome room File x).answer ≡ Refused c q → first_fault (Content ++ Last) ≡ Fault c q
          go Fine f e = let z : ◌≡◌ {A = ℕ} 0 1 = cc in absurd (omega arith)
          go (Fault k i) f e =
              let same = same_refusal e in
              f ∙ ap (λ (d : Code). Fault d i) same.0 ∙ ap (Fault c) same.1

      refused_so : (c : Code) (q : ℕ) → R c q → write_file_of ns ss ds cs a v e room ≡ outcome room File (Fault c q)
      unfolding write_file_of
      refused_so c q r = ap (outcome room File) (told_fault c q r)

      -- refused exactly so
      pub write_exactly : (c : Code) (q : ℕ) → (write_file_of ns ss ds cs a v e room).answer ≡ Refused c q ↔ R c q
      write_exactly c q = (λ f. fault_told c q (answer_of_lem c q f), λ r. ap (λ (o : WriteOutcome). o.answer) (refused_so c q r))

      pub write_refused : (c : Code) (q : ℕ) (o : WriteOutcome) → o ≡ write_file_of ns ss ds cs a v e room → R c q → WriteRefused room c q o
      write_refused c q o f r =
          let x = f ∙ refused_so c q r in
          record { answer = ap (λ (u : WriteOutcome). u.answer) x; told = ap (λ (u : WriteOutcome). u.told) x; list = ap (λ (u : WriteOutcome). u.list) x }

      -- how long the file is
      size_of : (h : ℕ) → Open ns ss ds cs v e h → length File ≡ file_long h s p
      size_of h o = go h o.holds
        where
          g : Shaped ns ss ds cs
          g = o.shaped

          go : (h : ℕ) → Holds v e h → length File ≡ file_long h s p
          go h (told.Holds.first x y) = rw x (file_size_lem version1 [] ns ss ds cs a refl g.starts g.deltas g.coefficients ∙ omega arith)
          go h (told.Holds.second x y) = rw x (file_size_lem version2 (e ∷ []) ns ss ds cs a refl g.starts g.deltas g.coefficients ∙ omega arith)

      -- and done exactly where nothing is given
      done_of : (n : ℕ) → (write_file_of ns ss ds cs a v e room).answer ≡ Done n → FileAccepted ns ss ds cs v e room n
      unfolding write_file_of
      done_of n d = go (first_fault (Content ++ Last)) refl d
        where
          go : (x : Verdict) → first_fault (Content ++ Last) ≡ x → (outcome room File x).answer ≡ Done n → FileAccepted ns ss ds cs v e room n
          go (Fault k i) f d = let z : ◌≡◌ {A = ℕ} 0 1 = cc in absurd (omega arith)
          go Fine f d =
              let b = both_fine Content Last f in
              let w = fine_writable b.0 in
              let o = w.writable.fitting.headable.shaped in
              let t = passed (ltb room Due) Room 0 [] b.1 in
              let k : length File ≡ n = cc in
              record {
                header = w.header;
                writable = w.writable;
                held = omega (arith, ltb-false room Due t.0, due_is w.header (holds_free v e w.header o.holds).2);
                all = sym k ∙ size_of w.header o;
              }

      of_done : (n : ℕ) → FileAccepted ns ss ds cs v e room n → (write_file_of ns ss ds cs a v e room).answer ≡ Done n
      unfolding write_file_of first_fault
      of_done n t =
          let o = t.writable.fitting.headable.shaped in
          let x = fine_before Content Last (writable_fine t.header t.writable) in
          let y = passes (ltb room Due) Room 0 [] (le-ltb room Due (omega (arith, t.held, due_is t.header (holds_free v e t.header o.holds).2))) in
          ap (λ (r : Verdict). (outcome room File r).answer) (x ∙ y) ∙ ap Done (size_of t.header o ∙ sym t.all)

      pub write_done : (n : ℕ) → (write_file_of ns ss ds cs a v e room).answer ≡ Done n ↔ FileAccepted ns ss ds cs v e room n
      write_done n = (λ d. done_of n d, λ t. of_done n t)

-- Assumes nothing.
