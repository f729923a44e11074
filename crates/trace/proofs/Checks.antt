-- Laws of checks number by number, and of a part of the numbers.
use mathlib.Core.Path.{◌≡◌, refl, ap, ◌∙◌}
use mathlib.Core.Bool.{Bool, true, false}
use mathlib.Core.List.{List, [], ◌∷◌}
use Prim.Native.Nat.{ℕ, zero, suc, ◌+◌, ◌*◌, ◌≤◌, ◌<◌}
use native.Mathlib.Nat.{not-suc-le-zero, le_of_suc-le-suc}
use native.Mathlib.Omega.{arith}
use lib.ListN.{length, take, drop, get_or, length-drop, drop_of_length-le}
use lib.Seq.{drop-cons, length-take-le, get_or-take, get_or-drop}
use Rattle.codes.specs.declared.Code.{Code}
use Rattle.writer.specs.Write.{check, first_fault}
use Rattle.write_judge.specs.Verdict.{Fine, Fault}
use Rattle.write_judge.proofs.Checks.{fails, passes, passed}
use Rattle.little.specs.Little.{numbers_in}
use Rattle.trace.specs.Trace.{part, number_checks}

module _ {A : Type 0} (test : A → Bool) (c : Code) where
  -- ---- a turn of a loop over the numbers

  turn : (xs : List A) (d : A) (k i : ℕ) → i < length xs
      → number_checks test c k (drop i xs) ≡ check (test (get_or xs i d)) c (4 * k) ∷ number_checks test c (suc k) (drop (suc i) xs)
  unfolding number_checks
  turn xs d k i h = rw (drop-cons xs i d h)

  pub turn_fault : (xs : List A) (d : A) (k i : ℕ) → i < length xs → test (get_or xs i d) ≡ true → first_fault (number_checks test c k (drop i xs)) ≡ Fault c (4 * k)
  turn_fault xs d k i h e = rw (turn xs d k i h) (fails (test (get_or xs i d)) c (4 * k) _ e)

  pub turn_pass : (xs : List A) (d : A) (k i : ℕ) → i < length xs → test (get_or xs i d) ≡ false
      → first_fault (number_checks test c k (drop i xs)) ≡ first_fault (number_checks test c (suc k) (drop (suc i) xs))
  turn_pass xs d k i h e = rw (turn xs d k i h) (passes (test (get_or xs i d)) c (4 * k) _ e)

  pub turn_end : (xs : List A) (k i : ℕ) → length xs ≤ i → first_fault (number_checks test c k (drop i xs)) ≡ Fine
  unfolding number_checks first_fault
  turn_end xs k i h = rw (drop_of_length-le xs h)

  -- ---- all of them

  -- nothing was found: each passes
  pub fine_each : (xs : List A) (d : A) (k : ℕ) → first_fault (number_checks test c k xs) ≡ Fine → (i : ℕ) → i < length xs → test (get_or xs i d) ≡ false
  unfolding number_checks
  fine_each [] d k e i h = absurd (not-suc-le-zero h)
  fine_each (x ∷ xs) d k e zero h = (passed (test x) c (4 * k) (number_checks test c (suc k) xs) e).0
  fine_each (x ∷ xs) d k e (suc i) h = fine_each xs d (suc k) (passed (test x) c (4 * k) (number_checks test c (suc k) xs) e).1 i (le_of_suc-le-suc h)

  pub each_fine : (xs : List A) (d : A) (k : ℕ) → ((i : ℕ) → i < length xs → test (get_or xs i d) ≡ false) → first_fault (number_checks test c k xs) ≡ Fine
  unfolding number_checks first_fault
  each_fine [] d k f = refl
  each_fine (x ∷ xs) d k f = passes (test x) c (4 * k) (number_checks test c (suc k) xs) (f 0 (omega arith)) ∙ each_fine xs d (suc k) (λ i h. f (suc i) (omega arith))

-- ---- a part of the numbers

pub part_length : (from n : ℕ) (ns : List ℕ) → from + n ≤ length ns → length (part from n ns) ≡ n
part_length from n ns h = length-take-le n (drop from ns) (omega (arith, length-drop from ns))

pub part_at : (from n : ℕ) (ns : List ℕ) (i : ℕ) → i < n → get_or (part from n ns) i 0 ≡ get_or ns (from + i) 0
part_at from n ns i h = get_or-take n (drop from ns) i 0 h ∙ get_or-drop from ns i 0

-- the numbers in a slice of the bytes, from a number's first byte on

numbers_drop : (k : ℕ) (l : List ℕ) → numbers_in (drop (4 * k) l) ≡ drop k (numbers_in l)
unfolding numbers_in
numbers_drop zero l = refl
numbers_drop (suc k) l = let p : 4 * suc k ≡ suc (suc (suc (suc (4 * k)))) = omega arith in rw p (go (numbers_drop k) l)
  where
    go : ((l : List ℕ) → numbers_in (drop (4 * k) l) ≡ drop k (numbers_in l)) → (l : List ℕ) → numbers_in (drop (suc (suc (suc (suc (4 * k))))) l) ≡ drop (suc k) (numbers_in l)
    go f [] = refl
    go f (a ∷ []) = refl
    go f (a ∷ b ∷ []) = refl
    go f (a ∷ b ∷ c ∷ []) = refl
    go f (a ∷ b ∷ c ∷ d ∷ l) = f l

numbers_take : (k : ℕ) (l : List ℕ) → numbers_in (take (4 * k) l) ≡ take k (numbers_in l)
unfolding numbers_in
numbers_take zero l = refl
numbers_take (suc k) l = let p : 4 * suc k ≡ suc (suc (suc (suc (4 * k)))) = omega arith in rw p (go (numbers_take k) l)
  where
    go : ((l : List ℕ) → numbers_in (take (4 * k) l) ≡ take k (numbers_in l)) → (l : List ℕ) → numbers_in (take (suc (suc (suc (suc (4 * k))))) l) ≡ take (suc k) (numbers_in l)
    go f [] = refl
    go f (a ∷ []) = refl
    go f (a ∷ b ∷ []) = refl
    go f (a ∷ b ∷ c ∷ []) = refl
    go f (a ∷ b ∷ c ∷ d ∷ l) = ap (λ (t : List ℕ). (a + 256 * b + 65536 * (c + 256 * d)) ∷ t) (f l)

pub numbers_part : (from n k : ℕ) (l : List ℕ) → k ≡ 4 * n → numbers_in (take k (drop (4 * from) l)) ≡ part from n (numbers_in l)
numbers_part from n k l e = rw e (numbers_take n (drop (4 * from) l) ∙ ap (take n) (numbers_drop from l))

-- Assumes nothing.
