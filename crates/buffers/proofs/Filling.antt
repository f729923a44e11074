-- A buffer that takes a list piece by piece: what is written and what is still to come make up the whole list at every moment.
use mathlib.Core.Path.{◌≡◌, refl, sym, ap, ◌∙◌}
use mathlib.Core.List.{List, [], ◌++◌, append_assoc, append-nil}
use Prim.Native.Nat.{ℕ, ◌+◌, ◌≤◌}
use native.Mathlib.Omega.{arith}
use lib.ListN.{length, length-append}
use lib.Seq.{sets}
use Rattle.buffers.specs.Onto.{onto}
use Rattle.buffers.proofs.Fronts.{onto_none, length_onto, sets_onto, sets_more}

-- ---- from the front on

-- A buffer that was o₀ is being filled with whole: n cells are written, and rest is still to come.
pub record Filled {A : Type 0} (whole o₀ o rest : List A) (n : ℕ) : Type 0 where
  pub done : List A
  pub parts : whole ≡ done ++ rest
  pub size : length done ≡ n
  pub buffer : o ≡ onto done o₀

module _ {A : Type 0} {whole o₀ : List A} where
  pub filled_none : (rest : List A) → whole ≡ rest → Filled whole o₀ o₀ rest 0
  filled_none rest e = record { done = []; parts = e; size = refl; buffer = sym (onto_none o₀) }

  -- the next vs are stored
  pub filled_more : {o : List A} {n : ℕ} (vs rest : List A) → Filled whole o₀ o (vs ++ rest) n → n + length vs ≤ length o₀
      → (m : ℕ) → n + length vs ≡ m → Filled whole o₀ (sets o n vs) rest m
  filled_more {o} {n} vs rest f h m e = record {
    done = f.done ++ vs;
    parts = f.parts ∙ sym (append_assoc f.done vs rest);
    size = length-append f.done vs ∙ omega (arith, f.size);
    buffer = ap (λ (t : List A). sets t n vs) f.buffer ∙ sets_onto f.done vs o₀ n f.size h;
  }

  pub filled_length : {o rest : List A} {n : ℕ} → Filled whole o₀ o rest n → n ≤ length o₀ → length o ≡ length o₀
  filled_length f h = ap length f.buffer ∙ length_onto f.done o₀ (omega (arith, f.size))

  pub filled_all : {o : List A} {n : ℕ} → Filled whole o₀ o [] n → o ≡ onto whole o₀
  filled_all f = f.buffer ∙ ap (λ (t : List A). onto t o₀) (sym (f.parts ∙ append-nil f.done))

-- ---- from an index on

-- The list whole is being stored from index k on: n of it are stored, and rest is still to come. No bound is asked: `sets` past the end stores nothing.
pub record Stored {A : Type 0} (whole o₀ o rest : List A) (k n : ℕ) : Type 0 where
  pub done : List A
  pub parts : whole ≡ done ++ rest
  pub size : length done ≡ n
  pub buffer : o ≡ sets o₀ k done

module _ {A : Type 0} {whole o₀ : List A} {k : ℕ} where
  pub stored_none : Stored whole o₀ o₀ whole k 0
  stored_none = record { done = []; parts = refl; size = refl; buffer = refl }

  -- the next vs are stored
  pub stored_more : {o rest : List A} {n : ℕ} (vs rest' : List A) → Stored whole o₀ o rest k n → rest ≡ vs ++ rest' → (j m : ℕ) → k + n ≡ j → n + length vs ≡ m
      → Stored whole o₀ (sets o j vs) rest' k m
  stored_more vs rest' f r j m e g = record {
    done = f.done ++ vs;
    parts = f.parts ∙ ap (λ (t : List A). f.done ++ t) r ∙ sym (append_assoc f.done vs rest');
    size = length-append f.done vs ∙ omega (arith, f.size);
    buffer = ap (λ (t : List A). sets t j vs) f.buffer ∙ sets_more f.done vs o₀ k j (omega (arith, f.size));
  }

  pub stored_all : {o rest : List A} {n : ℕ} → Stored whole o₀ o rest k n → rest ≡ [] → o ≡ sets o₀ k whole
  stored_all f r = f.buffer ∙ ap (sets o₀ k) (sym (f.parts ∙ ap (λ (t : List A). f.done ++ t) r ∙ append-nil f.done))

-- Assumes nothing.
