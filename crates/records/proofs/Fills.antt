-- A list that is filled from the front: what a loop over its places has done, and that at the end it is the list of the values.
--     fills f n ys     ys with f k at each k below n.        length-fills     it is as long as ys
--     fills-at         at k below n and below the length it is f k
--     fills-all        filled to its length, it is `list_from f 0` of that length
--     listFrom-at      at k below n the list of n values from i on is f (i + k)
use mathlib.Core.Path.{◌≡◌, refl, sym, ◌∙◌, ap, subst}
use mathlib.Core.Logic.{⊎_elim}
use mathlib.Core.List.{List}
use Prim.Native.Nat.{ℕ, zero, suc, ◌+◌, ◌<◌}
use native.Mathlib.Nat.{add-zero, add-suc, suc-add, zero-add, lt_irrefl, not-suc-le-zero, le_of_suc-le-suc, eq-or-lt_of_le}
use lib.ListN.{length, get_or, set, length-set}
use lib.Seq.{ext_get_or, get_or-set_same, get_or-set_other}
use Rattle.records.specs.Records.{list_from}

module _ {A : Type 0} (f : ℕ → A) where
  abbrev pub fills : ℕ → List A → List A
  fills zero ys = ys
  fills (suc n) ys = set (fills n ys) n (f n)

  pub length_fills : (n : ℕ) (ys : List A) → length (fills n ys) ≡ length ys
  length_fills zero ys = refl
  length_fills (suc n) ys = length-set (fills n ys) n (f n) ∙ length_fills n ys

  pub fills_at : (n : ℕ) (ys : List A) (k : ℕ) (d : A) → k < n → k < length ys → get_or (fills n ys) k d ≡ f k
  fills_at zero ys k d h l = absurd (not-suc-le-zero h)
  fills_at (suc n) ys k d h l = ⊎_elim
      (λ (e : k ≡ n). subst (λ (j : ℕ). get_or (fills (suc n) ys) j d ≡ f j) (sym e) (get_or-set_same (fills n ys) n (f n) d (subst (λ (m : ℕ). n < m) (sym (length_fills n ys)) (subst (λ (j : ℕ). j < length ys) e l))))
      (λ lt. get_or-set_other (fills n ys) n k (f n) d (λ e. lt_irrefl n (subst (λ (j : ℕ). j < n) e lt)) ∙ fills_at n ys k d lt l)
      (eq-or-lt_of_le (le_of_suc-le-suc h))

  pub length_list_from : (i n : ℕ) → length (list_from f i n) ≡ n
  length_list_from i zero = refl
  length_list_from i (suc n) = ap suc (length_list_from (suc i) n)

  pub list_from_at : (i n k : ℕ) (d : A) → k < n → get_or (list_from f i n) k d ≡ f (i + k)
  list_from_at i zero k d h = absurd (not-suc-le-zero h)
  list_from_at i (suc n) zero d h = ap f (sym (add-zero i))
  list_from_at i (suc n) (suc k) d h = list_from_at (suc i) n k d (le_of_suc-le-suc h) ∙ ap f (suc-add i k ∙ sym (add-suc i k))

  -- the value d is any: a list that is not empty has one
  pub fills_all : (d : A) (ys : List A) → fills (length ys) ys ≡ list_from f 0 (length ys)
  fills_all d ys = ext_get_or d (fills (length ys) ys) (list_from f 0 (length ys)) (length_fills (length ys) ys ∙ sym (length_list_from 0 (length ys)))
      (λ k h. fills_at (length ys) ys k d (subst (λ (m : ℕ). k < m) (length_fills (length ys) ys) h) (subst (λ (m : ℕ). k < m) (length_fills (length ys) ys) h)
      ∙ sym (list_from_at 0 (length ys) k d (subst (λ (m : ℕ). k < m) (length_fills (length ys) ys) h) ∙ ap f (zero-add k)))

-- Assumes nothing.
