-- A table that a loop fills: none yet, one more, all. Every such loop of the crate cites these.
use Rattle.std.proofs.Common.{◌≡◌, ℕ, zero, suc, ◌+◌, ◌<◌, ◌≤◌, List, [], ◌∷◌, ◌++◌, length, set, sym, refl, ap, ◌∙◌, append_assoc, append-nil, add-one, arith, length-append, length-set}
use lib.Seq.{set_at}
use Rattle.dequantize.specs.Coefficients.{table}

-- of the n cells of o the first i hold the table's values
pub record Filling {A : Type 0} (g : ℕ → A) (n : ℕ) (o : List A) (i : ℕ) : Type 0 where
  pub size : length o ≡ n
  pub some : i ≤ n
  pub rest : List A
  pub is : o ≡ table g i ++ rest

module _ {A : Type 0} (g : ℕ → A) where
  pub length_table : (n : ℕ) → length (table g n) ≡ n
  unfolding table
  length_table zero = refl
  length_table (suc n) = length-append (table g n) (g n ∷ []) ∙ omega (arith, length_table n)

  pub filling_none : (n : ℕ) (o : List A) → length o ≡ n → Filling g n o 0
  unfolding table
  filling_none n o e = record { size = e; some = omega arith; rest = o; is = refl }

  pub filling_more : {n : ℕ} {o : List A} (i : ℕ) → Filling g n o i → i < n → {v : A} → v ≡ g i → Filling g n (set o i v) (i + 1)
  unfolding table
  filling_more {n} {o} i q h {v} e =
      let l : i + length q.rest ≡ n = omega (arith, simp (length-append, length_table) at (ap length q.is), q.size) in
      go q.rest l q.is
    where
      go : (r : List A) → i + length r ≡ n → o ≡ table g i ++ r → Filling g n (set o i v) (i + 1)
      go [] l d = absurd (omega arith)
      go (y ∷ ys) l d = record {
        size = length-set o i v ∙ q.size;
        some = omega arith;
        rest = ys;
        is = rw (d, e, add-one i) (set_at (table g i) y ys (g i) i (length_table i) ∙ sym (append_assoc (table g i) (g i ∷ []) ys));
      }

  pub filling_all : {n : ℕ} {o : List A} (i : ℕ) → Filling g n o i → n ≤ i → o ≡ table g n
  filling_all {n} {o} i q h =
      let e : i ≡ n = omega (arith, q.some) in
      let l : length q.rest ≡ 0 = omega (arith, simp (length-append, length_table) at (ap length q.is), q.size) in
      q.is ∙ rw (e, nothing q.rest l) (append-nil (table g n))
    where
      nothing : (r : List A) → length r ≡ 0 → r ≡ []
      nothing [] l = refl
      nothing (y ∷ ys) l = absurd (omega arith)

-- Assumes nothing.
