-- What is shown of a row is listed by one more test; and the segments that are not hidden, from the front.
use mathlib.Core.Path.{◌≡◌, refl, sym, ap, ◌∙◌}
use mathlib.Core.Bool.{Bool, true, false, cond, not, ◌&&◌}
use mathlib.Core.List.{List, [], ◌∷◌, ◌++◌, append-nil}
use Prim.Native.Nat.{ℕ, zero, suc, ◌<◌}
use native.Mathlib.Omega.{arith}
use lib.ListN.{length, get_or}
use borrow.Author.Tests.{lt-ltb}
use Rattle.segments.specs.declared.Segment.{Segment}
use Rattle.rows.specs.Rows.{listed}
use Rattle.rows.proofs.Counts.{listed_in, listed_out}
use Rattle.desks.specs.Desks.{Sight, owner_in, hidden_in, shown, all_owned}
use Rattle.picture.specs.Sights.{hides, not_hidden}

module _ (s : Sight) where
  shown_append : (l m : List ℕ) → shown s (l ++ m) ≡ shown s l ++ shown s m
  shown_append [] m = refl
  shown_append (i ∷ l) m = go (hidden_in s i) (shown_append l m)
    where
      go : (b : Bool) → shown s (l ++ m) ≡ shown s l ++ shown s m → cond b (shown s (l ++ m)) (i ∷ shown s (l ++ m)) ≡ cond b (shown s l) (i ∷ shown s l) ++ shown s m
      go true e = e
      go false e = ap (λ (k : List ℕ). i ∷ k) e

  -- the numbers below n that pass a test and are not hidden
  unfoldable pub seen : (ℕ → ℕ → Bool) → ℕ → ℕ → Bool
  seen has i y = has i y && not (hidden_in s i)

  pub shown_listed : (has : ℕ → ℕ → Bool) (y n : ℕ) → shown s (listed has y n) ≡ listed (seen has) y n
  unfolding listed seen
  shown_listed has y zero = refl
  shown_listed has y (suc n) = go (has n y) (hidden_in s n) refl refl (shown_listed has y n)
    where
      last : (b : Bool) → hidden_in s n ≡ b → shown s (n ∷ []) ≡ cond b [] (n ∷ [])
      last b q = rw q

      split : has n y ≡ true → (b : Bool) → hidden_in s n ≡ b → shown s (listed has y n) ≡ listed (seen has) y n → shown s (listed has y (suc n)) ≡ listed (seen has) y n ++ cond b [] (n ∷ [])
      split p b q ih =
          ap (shown s) (listed_in has y n p) ∙ shown_append (listed has y n) (n ∷ []) ∙ ap (λ (l : List ℕ). l ++ shown s (n ∷ [])) ih ∙ ap (λ (l : List ℕ). listed (seen has) y n ++ l) (last b q)

      go : (a b : Bool) → has n y ≡ a → hidden_in s n ≡ b → shown s (listed has y n) ≡ listed (seen has) y n → shown s (listed has y (suc n)) ≡ listed (seen has) y (suc n)
      go true true p q ih = split p true q ih ∙ append-nil (listed (seen has) y n) ∙ sym (listed_out (seen has) y n (rw (p, q)))
      go true false p q ih = split p false q ih ∙ sym (listed_in (seen has) y n (rw (p, q)))
      go false b p q ih = ap (shown s) (listed_out has y n p) ∙ ih ∙ sym (listed_out (seen has) y n (rw p))

  pub not_hidden_append : (us vs : List ℕ) (xs ys : List Segment) → length us ≡ length xs → not_hidden s (us ++ vs) (xs ++ ys) ≡ not_hidden s us xs ++ not_hidden s vs ys
  not_hidden_append [] vs [] ys h = refl
  not_hidden_append [] vs (x ∷ xs) ys h = absurd (omega arith)
  not_hidden_append (u ∷ us) vs [] ys h = absurd (omega arith)
  not_hidden_append (u ∷ us) vs (x ∷ xs) ys h = go (not_hidden_append us vs xs ys (omega arith)) (hides s u)
    where
      go : not_hidden s (us ++ vs) (xs ++ ys) ≡ not_hidden s us xs ++ not_hidden s vs ys
          → (b : Bool) → cond b (not_hidden s (us ++ vs) (xs ++ ys)) (x ∷ not_hidden s (us ++ vs) (xs ++ ys)) ≡ cond b (not_hidden s us xs) (x ∷ not_hidden s us xs) ++ not_hidden s vs ys
      go rest true = rest
      go rest false = ap (λ (l : List Segment). x ∷ l) rest

  -- the owner of each listed segment is a spline
  pub all_owned_lem : (l : List ℕ) → ((j : ℕ) → j < length l → owner_in s (get_or l j 0) < s.splines) → all_owned s.owners s.splines l ≡ true
  all_owned_lem [] h = refl
  all_owned_lem (i ∷ l) h = rw (lt-ltb (owner_in s i) s.splines (h 0 (omega arith))) (all_owned_lem l (λ j k. h (suc j) (omega arith)))

-- Assumes nothing.
