-- A cell of a table is its rule's value. A running sum of a row gets its products eight at a time, in their order; the table of cosines itself stands nowhere in the code.
use mathlib.Core.Path.{◌≡◌, refl, sym, ap, ◌∙◌}
use mathlib.Core.Logic.{◌⊎◌, ⊎_elim}
use mathlib.Core.List.{List, [], ◌∷◌, ◌++◌}
use Prim.Native.Nat.{ℕ, zero, suc, ◌+◌, ◌-◌, ◌%◌, ◌≤◌, ◌<◌}
use native.Mathlib.Nat.{eq-or-lt_of_le, le_of_suc-le-suc}
use native.Mathlib.Omega.{arith}
use lib.ListN.{length, get_or, get_or-append}
use lib.Seq.{get_or-append_seam}
use lib.Ieee.{Float, nan}
use Rattle.numbers.specs.Arith.{f, ◌⊕◌, ◌⊗◌}
use Rattle.approximations.specs.Cos.{fast_cos}
use Rattle.dequantize.specs.Coefficients.{table}
use Rattle.dequantize.proofs.Tables.{length_table}
use Rattle.eights.specs.Eights.{dct_multiplier, cosine_at, sum_of}

-- cell k of a table
pub get_d_table : {A : Type 0} (g : ℕ → A) (n k : ℕ) (d : A) → k < n → get_or (table g n) k d ≡ g k
unfolding table
get_d_table g zero k d h = absurd (omega arith)
get_d_table g (suc n) k d h =
    ⊎_elim (λ e. last n k e)
    (λ l. get_or-append (table g n) (g n ∷ []) d k (omega (arith, length_table g n)) ∙ get_d_table g n k d (le_of_suc-le-suc l))
    (eq-or-lt_of_le h)
  where
    last : (n k : ℕ) → suc k ≡ suc n → get_or (table g n ++ (g n ∷ [])) k d ≡ g k
    last n k e =
        let q : k ≡ length (table g n) = omega (arith, length_table g n) in
        rw q (get_or-append_seam (table g n) (g n) [] d ∙ ap g (sym (length_table g n)))

-- one product more
pub sum_more : (p : ℕ → Float) (i : ℕ) {s : Float} → 1 ≤ i → s ≡ sum_of p (i - 1) → s ⊕ p i ≡ sum_of p (i + 1 - 1)
unfolding sum_of
sum_more p zero h e = absurd (omega arith)
sum_more p (suc i) h e =
    let g : suc i + 1 - 1 ≡ suc i = omega arith in
    let d : suc i - 1 ≡ i = omega arith in
    rw (g, e, d)

-- ---- eight multipliers and eight cosines

-- the entries from k on are those from a number that is k
pub eight_is : (from k : ℕ) {r : List Float} → from ≡ k → r ≡ table (λ j. dct_multiplier (k + j)) 8 → r ≡ table (λ j. dct_multiplier (from + j)) 8
eight_is from k e q = q ∙ ap (λ (n : ℕ). table (λ j. dct_multiplier (n + j)) 8) (sym e)

-- after 0, 8 and 16 only 24 is left
pub last_eighth : (from : ℕ) → from % 8 ≡ 0 → from < 32 → (from ≡ 0 → ⊥) → (from ≡ 8 → ⊥) → (from ≡ 16 → ⊥) → from ≡ 24
last_eighth from e l a b c = omega arith

-- the cosine from + j, by its multiplier
pub cosine_is : (t : Float) (multipliers : List Float) (tandhalf : Float) (from j : ℕ) {v : Float}
    → multipliers ≡ table (λ j. dct_multiplier (from + j)) 8 → tandhalf ≡ t ⊕ f 0x3f000000 → j < 8 → v ≡ fast_cos (get_or multipliers j nan ⊗ tandhalf) → v ≡ cosine_at t (from + j)
unfolding cosine_at
cosine_is t multipliers tandhalf from j e g l q = q ∙ rw (e, g, get_d_table (λ (j : ℕ). dct_multiplier (from + j)) 8 j nan l)

-- ---- a running sum

-- the product i of a row and the cosines
abbrev pub product : List Float → Float → ℕ → Float
product row t i = get_or row i nan ⊗ get_or (table (cosine_at t) 32) i nan

-- s has the products of the row before from + j
pub record Fed (row eight : List Float) (t : Float) (from : ℕ) (s : Float) (j : ℕ) : Type 0 where
  pub room : from + 8 ≤ 32
  pub cosines : eight ≡ table (λ j. cosine_at t (from + j)) 8
  pub some : 1 ≤ j
  pub most : j ≤ 8
  pub is : s ≡ sum_of (product row t) (from + j - 1)

module _ (row eight : List Float) (t : Float) (from : ℕ) (h : from + 8 ≤ 32) (e : eight ≡ table (λ j. cosine_at t (from + j)) 8) where
  product_is : (i j : ℕ) → j < 8 → i ≡ from + j → get_or row i nan ⊗ get_or eight j nan ≡ product row t i
  product_is i j l q =
      let c : get_or eight j nan ≡ cosine_at t (from + j) = rw e (get_d_table (λ (j : ℕ). cosine_at t (from + j)) 8 j nan l) in
      let d : get_or (table (cosine_at t) 32) i nan ≡ cosine_at t i = get_d_table (cosine_at t) 32 i nan (omega arith) in
      ap (λ (v : Float). get_or row i nan ⊗ v) (c ∙ ap (cosine_at t) (sym q) ∙ sym d)

  -- the first product of all begins the sum
  pub fed_first : {s : Float} → from ≡ 0 → s ≡ get_or row from nan ⊗ get_or eight 0 nan → Fed row eight t from s 1
  unfolding sum_of
  fed_first z q =
      let g : from + 1 - 1 ≡ 0 = omega arith in
      record {
        room = h;
        cosines = e;
        some = omega arith;
        most = omega arith;
        is = q ∙ product_is from 0 (omega arith) (omega arith) ∙ ap (product row t) z ∙ ap (sum_of (product row t)) (sym g);
      }

  -- a later one is added
  pub fed_next : {sum s : Float} → (from ≡ 0 → ⊥) → (from ≡ 0) ⊎ (sum ≡ sum_of (product row t) (from - 1)) → s ≡ sum ⊕ get_or row from nan ⊗ get_or eight 0 nan → Fed row eight t from s 1
  fed_next {sum} n d q = record {
    room = h;
    cosines = e;
    some = omega arith;
    most = omega arith;
    is = q ∙ ap (λ (v : Float). sum ⊕ v) (product_is from 0 (omega arith) (omega arith)) ∙ sum_more (product row t) from (omega arith) (⊎_elim (λ z. absurd (n z)) (λ g. g) d);
  }

-- one product more
pub fed_more : {row eight : List Float} {t : Float} {from : ℕ} {s : Float} (j : ℕ) → Fed row eight t from s j → j < 8 → Fed row eight t from (s ⊕ get_or row (from + j) nan ⊗ get_or eight j nan) (j + 1)
fed_more {row} {eight} {t} {from} {s} j q l =
    let g : from + j + 1 - 1 ≡ from + (j + 1) - 1 = omega arith in
    let p = product_is row eight t from q.room q.cosines (from + j) j l refl in
    record {
      room = q.room;
      cosines = q.cosines;
      some = omega arith;
      most = omega arith;
      is = ap (λ (v : Float). s ⊕ v) p ∙ sum_more (product row t) (from + j) (omega (arith, q.some)) q.is ∙ ap (sum_of (product row t)) g;
    }

-- all eight are added
pub fed_all : {row eight : List Float} {t : Float} {from : ℕ} {s : Float} (j : ℕ) → Fed row eight t from s j → 8 ≤ j → s ≡ sum_of (product row t) (from + 7)
fed_all {row} {eight} {t} {from} j q l =
    let g : from + j - 1 ≡ from + 7 = omega (arith, q.most) in
    q.is ∙ ap (sum_of (product row t)) g

-- Assumes nothing.
