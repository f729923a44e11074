-- The counts and offsets of a header, the starts and the double deltas of a description are refused with a code at a place exactly when the table of Behind.antt gives it, whatever the header's length is.
use mathlib.Core.Path.{◌≡◌, refl, sym, ap, subst, ◌∙◌}
use mathlib.Core.Bool.{Bool, true, false, not, cond, ◌||◌, ◌&&◌}
use mathlib.Core.List.{List, [], ◌++◌}
use Prim.Native.Nat.{ℕ, zero, suc, ◌+◌, ◌*◌, ◌%◌, ◌^◌, ◌≤◌, ◌<◌}
use native.Mathlib.Omega.{arith}
use lib.Dec.{T, eqb, ltb, leb}
use lib.ListN.{length, get_or}
use lib.IntN.{ℤ, pos, nat_abs}
use lib.Ieee.{Float, nan, inf, fin, up, down}
use borrow.Author.Tests.{lt-ltb, le-leb, ltb-true, leb-true, leb-false, ne_eqb, eqb-true, eqb-false}
use Rattle.codes.specs.declared.Code.{Code}
use Rattle.codes.specs.declared.Code.TheVariants.{Coord, Delta, Header}
use Rattle.shape.specs.Shape.{points_of}
use Rattle.writer.specs.Write.{Check, first_fault}
use Rattle.write_judge.specs.Verdict.{Fine, Fault}
use Rattle.write_judge.proofs.Checks.{passed, faults_before, fine_before, both_fine}
use Rattle.write_laws.specs.Refusals.{NoneOf}
use Rattle.trace.specs.Trace.{starts_from, deltas_from, coefficients_from, wild, number_checks}
use Rattle.trace.specs.Write.{misfit, header_checks, value_checks}
use Rattle.trace.proofs.Checks.{fine_each, each_fine}
use Rattle.trace_fit.proofs.Fits.{many_splines, many_points, far_starts, far_deltas, far_coefficients, header_fine, values_start, values_rest}
use Rattle.trace_laws.specs.Behind.{Misfit, no_number, infinite, below, above, not_whole, minus_zero, MisfitAt, WildIn, HeadedBy, HeadableBy, FittingBy, WritableBy, PutRefusal}
use Rattle.trace_laws.specs.Behind as behind
use Rattle.trace_laws.proofs.Firsts.{head_or, append_or, none_or, numbers_or, numbers_at}

-- ---- a number that is no start, as a test and in words

misfit_told : (x : Float) → misfit x ≡ true → Misfit x
unfolding misfit
misfit_told nan e = no_number
misfit_told (inf s) e = infinite
misfit_told (fin true m e) h = go (ltb (2 ^ 23 * down e) (m * up e)) (eqb (m * up e % down e) 0) refl refl h
  where
    zero_told : (m : ℕ) → eqb m 0 ≡ true → Misfit (fin true m e)
    zero_told zero t = minus_zero
    zero_told (suc m) t = absurd (omega (arith, eqb-true (suc m) 0 t))

    go : (a b : Bool) → ltb (2 ^ 23 * down e) (m * up e) ≡ a → eqb (m * up e % down e) 0 ≡ b → (a || (not b || eqb m 0)) ≡ true → Misfit (fin true m e)
    go true b x y t = below (ltb-true (2 ^ 23 * down e) (m * up e) x)
    go false false x y t = not_whole (eqb-false (m * up e % down e) 0 y)
    go false true x y t = zero_told m t
misfit_told (fin false m e) h = go (leb (2 ^ 23 * down e) (m * up e)) (eqb (m * up e % down e) 0) refl refl h
  where
    go : (a b : Bool) → leb (2 ^ 23 * down e) (m * up e) ≡ a → eqb (m * up e % down e) 0 ≡ b → (a || (not b || false)) ≡ true → Misfit (fin false m e)
    go true b x y t = above refl (leb-true (2 ^ 23 * down e) (m * up e) x)
    go false false x y t = not_whole (eqb-false (m * up e % down e) 0 y)
    go false true x y t = absurd (subst T (sym t) tt)

one_of : (a b d : Bool) → (b || d) ≡ true → (a || (b || d)) ≡ true
one_of true b d t = refl
one_of false b d t = t

told_misfit : (x : Float) → Misfit x → misfit x ≡ true
unfolding misfit
told_misfit x no_number = refl
told_misfit x infinite = refl
told_misfit x (below {m} {e} h) = rw (lt-ltb (2 ^ 23 * down e) (m * up e) h)
told_misfit x (above {s} {m} {e} f h) = rw (f, le-leb (2 ^ 23 * down e) (m * up e) h)
told_misfit x (not_whole {s} {m} {e} n) =
    one_of (cond s (ltb (2 ^ 23 * down e) (m * up e)) (leb (2 ^ 23 * down e) (m * up e))) (not (eqb (m * up e % down e) 0)) (s && eqb m 0) (rw (ne_eqb (m * up e % down e) 0 n))
told_misfit x (minus_zero {e}) = any (ltb (2 ^ 23 * down e) (0 * up e)) (not (eqb (0 * up e % down e) 0))
  where
    any : (a b : Bool) → (a || (b || true)) ≡ true
    any true b = refl
    any false true = refl
    any false false = refl

fit_told : (x : Float) → misfit x ≡ false → Misfit x → ⊥
fit_told x e m = subst T (sym (told_misfit x m) ∙ e) tt

told_fit : (x : Float) → (Misfit x → ⊥) → misfit x ≡ false
told_fit x n = go (misfit x) refl
  where
    go : (b : Bool) → misfit x ≡ b → misfit x ≡ false
    go true e = absurd (n (misfit_told x e))
    go false e = e

wild_told : (d : ℤ) → wild d ≡ false → 2 ^ 30 ≤ nat_abs d → ⊥
wild_told d e h = absurd (omega (arith, leb-false (2 ^ 30) (nat_abs d) e))

told_tame : (d : ℤ) → (2 ^ 30 ≤ nat_abs d → ⊥) → wild d ≡ false
told_tame d n = go (leb (2 ^ 30) (nat_abs d)) refl
  where
    go : (b : Bool) → leb (2 ^ 30) (nat_abs d) ≡ b → wild d ≡ false
    go true e = absurd (n (leb-true (2 ^ 30) (nat_abs d) e))
    go false e = e

-- ---- from a fault to the table

module _ (H : ℕ) (little : H < 16) (Before : Type 0) (ns : List ℕ) (ss : List Float) (ds : List ℤ) where
  abbrev s : ℕ
  s = length ns

  abbrev p : ℕ
  p = points_of ns

  abbrev Starts : List Check
  Starts = number_checks misfit Coord (starts_from H s) ss

  abbrev Deltas : List Check
  Deltas = number_checks wild Delta (deltas_from H s) ds

  -- what follows the lengths
  abbrev pub Puts : List Check
  Puts = header_checks H s p ++ value_checks H s ss ds

  abbrev R : Code → ℕ → Type 0
  R = PutRefusal H Before ns ss ds

  four : 4 * starts_from H s ≡ 4 * H + 4 * s
  four = omega arith

  twelve : 4 * deltas_from H s ≡ 4 * H + 12 * s
  twelve = omega arith

  twenty : 4 * coefficients_from H s p ≡ 4 * H + 12 * s + 8 * p
  twenty = omega arith

  headed_of : first_fault (header_checks H s p) ≡ Fine → HeadedBy H s p
  unfolding header_checks
  headed_of e =
      let a = passed _ Header 4 _ e in
      let b = passed _ Header 8 _ a.1 in
      let c = passed _ Header 16 _ b.1 in
      let d = passed _ Header 20 _ c.1 in
      let f = passed _ Header 24 _ d.1 in
      let g = passed _ Header 28 [] f.1 in
      record {
        splines = leb-false (2 ^ 32) s a.0;
        points = leb-false (2 ^ 32) p b.0;
        starts = omega (arith, four, leb-false (2 ^ 32) (4 * starts_from H s) d.0);
        deltas = omega (arith, twelve, leb-false (2 ^ 32) (4 * deltas_from H s) f.0);
        coefficients = omega (arith, twenty, leb-false (2 ^ 32) (4 * coefficients_from H s p) g.0);
      }

  of_headed : HeadedBy H s p → first_fault (header_checks H s p) ≡ Fine
  of_headed h =
      sym (header_fine H s p h.splines h.points little (omega (arith, four, h.starts)) (omega (arith, twelve, h.deltas)) (omega (arith, twenty, h.coefficients)))

  fit_of : first_fault Starts ≡ Fine → NoneOf (length ss) (MisfitAt ss)
  fit_of e k h = fit_told (get_or ss k nan) (fine_each misfit Coord ss nan (starts_from H s) e k h)

  of_fit : NoneOf (length ss) (MisfitAt ss) → first_fault Starts ≡ Fine
  of_fit n = each_fine misfit Coord ss nan (starts_from H s) (λ i h. told_fit (get_or ss i nan) (n i h))

  tame_of : first_fault Deltas ≡ Fine → NoneOf (length ds) (WildIn ds)
  tame_of e k h = wild_told (get_or ds k (pos 0)) (fine_each wild Delta ds (pos 0) (deltas_from H s) e k h)

  of_tame : NoneOf (length ds) (WildIn ds) → first_fault Deltas ≡ Fine
  of_tame n = each_fine wild Delta ds (pos 0) (deltas_from H s) (λ i h. told_tame (get_or ds i (pos 0)) (n i h))

  pub puts_writable : Before → first_fault Puts ≡ Fine → WritableBy H Before ns ss ds
  unfolding value_checks
  puts_writable before e =
      let b = both_fine (header_checks H s p) (value_checks H s ss ds) e in
      let c = both_fine Starts Deltas b.1 in
      record { fitting = record { headable = record { shaped = before; headed = headed_of b.0 }; fit = fit_of c.0 }; tame = tame_of c.1 }

  -- behind a header that can be written
  headable_rest : HeadableBy H Before ns → first_fault (value_checks H s ss ds) ≡ first_fault Puts
  headable_rest h = sym (fine_before (header_checks H s p) (value_checks H s ss ds) (of_headed h.headed))

  pub writable_puts : WritableBy H Before ns ss ds → first_fault Puts ≡ Fine
  writable_puts w = sym (headable_rest w.fitting.headable) ∙ sym (values_rest H s ss ds (of_fit w.fitting.fit)) ∙ of_tame w.tame

  module _ (before : Before) (c : Code) (q : ℕ) where
    header_to : first_fault (header_checks H s p) ≡ Fault c q → R c q
    unfolding header_checks
    header_to e =
        head_or R c q _ Header 4 _ e (λ t. behind.splines before (leb-true (2 ^ 32) s t))
        (λ a r. head_or R c q _ Header 8 _ r (λ t. behind.points before (leb-false (2 ^ 32) s a) (leb-true (2 ^ 32) p t))
        (λ b r2. head_or R c q _ Header 16 _ r2 (λ t. absurd (omega (arith, little, leb-true (2 ^ 32) (4 * H) t)))
        (λ d r3. head_or R c q _ Header 20 _ r3 (λ t. behind.PutRefusal.starts before (leb-false (2 ^ 32) s a) (leb-false (2 ^ 32) p b) (omega (arith, four, leb-true (2 ^ 32) (4 * starts_from H s) t)))
        (λ f r4. head_or R c q _ Header 24 _ r4
        (λ t. behind.PutRefusal.deltas before (leb-false (2 ^ 32) p b) (omega (arith, four, leb-false (2 ^ 32) (4 * starts_from H s) f)) (omega (arith, twelve, leb-true (2 ^ 32) (4 * deltas_from H s) t)))
        (λ g r5. head_or R c q _ Header 28 [] r5
        (λ t. behind.PutRefusal.coefficients before (leb-false (2 ^ 32) p b) (omega (arith, twelve, leb-false (2 ^ 32) (4 * deltas_from H s) g)) (omega (arith, twenty, leb-true (2 ^ 32) (4 * coefficients_from H s p) t)))
        (λ i z. none_or R c q z))))))

    values_to : HeadableBy H Before ns → first_fault (value_checks H s ss ds) ≡ Fault c q → R c q
    unfolding value_checks
    values_to h e =
        append_or R c q Starts Deltas e
        (λ f. numbers_or R c q misfit Coord nan ss (starts_from H s) f
        (λ i g n u. let at : 4 * H + 4 * s + 4 * i ≡ 4 * (starts_from H s + i) = omega arith in
        subst (R Coord) at (behind.PutRefusal.coord h i g (λ k l. fit_told (get_or ss k nan) (n k l)) (misfit_told (get_or ss i nan) u))))
        (λ f r. let fits : FittingBy H Before ns ss = record { headable = h; fit = fit_of f } in
        numbers_or R c q wild Delta (pos 0) ds (deltas_from H s) r
        (λ i g n u. let at : 4 * H + 12 * s + 4 * i ≡ 4 * (deltas_from H s + i) = omega arith in
        subst (R Delta) at (behind.PutRefusal.delta fits i g (λ k l. wild_told (get_or ds k (pos 0)) (n k l)) (leb-true (2 ^ 30) (nat_abs (get_or ds i (pos 0))) u))))

    pub puts_to : first_fault Puts ≡ Fault c q → R c q
    puts_to e =
        append_or R c q (header_checks H s p) (value_checks H s ss ds) e (λ f. header_to f) (λ f r. values_to (record { shaped = before; headed = headed_of f }) r)

  -- ---- from the table to a fault

  header_from : (q : ℕ) → Fault Header q ≡ first_fault (header_checks H s p) → first_fault Puts ≡ Fault Header q
  header_from q e = faults_before (header_checks H s p) (value_checks H s ss ds) Header q (sym e)

  pub told_puts : (c : Code) (q : ℕ) → R c q → first_fault Puts ≡ Fault c q
  told_puts c q (behind.splines h a) = header_from 4 (many_splines H s p a)
  told_puts c q (behind.points h a b) = header_from 8 (many_points H s p a b)
  told_puts c q (behind.PutRefusal.starts h a b d) = header_from 20 (far_starts H s p a b little (omega (arith, four)))
  told_puts c q (behind.PutRefusal.deltas h b d f) = header_from 24 (far_deltas H s p (omega arith) b little (omega (arith, four)) (omega (arith, twelve)))
  told_puts c q (behind.PutRefusal.coefficients h b d f) = header_from 28 (far_coefficients H s p (omega arith) b little (omega (arith, four)) (omega (arith, twelve)) (omega (arith, twenty)))
  told_puts c q (behind.PutRefusal.coord h k l n m) =
      let at : 4 * (starts_from H s + k) ≡ 4 * H + 4 * s + 4 * k = omega arith in
      let e = numbers_at misfit Coord nan ss (starts_from H s) k l (λ j g. told_fit (get_or ss j nan) (n j g)) (told_misfit (get_or ss k nan) m) in
      sym (headable_rest h) ∙ sym (values_start H s ss ds Coord (4 * (starts_from H s + k)) e) ∙ ap (Fault Coord) at
  told_puts c q (behind.PutRefusal.delta f k l n m) =
      let at : 4 * (deltas_from H s + k) ≡ 4 * H + 12 * s + 4 * k = omega arith in
      let e = numbers_at wild Delta (pos 0) ds (deltas_from H s) k l (λ j g. told_tame (get_or ds j (pos 0)) (n j g)) (le-leb (2 ^ 30) (nat_abs (get_or ds k (pos 0))) m) in
      sym (headable_rest f.headable) ∙ sym (values_rest H s ss ds (of_fit f.fit)) ∙ e ∙ ap (Fault Delta) at

-- Assumes nothing.
