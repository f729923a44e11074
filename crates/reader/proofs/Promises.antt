-- What the contract of `read` promises, for any outcome that it allows: there is one, it refuses exactly when the table says so and then leaves zeros,
-- and it gives back what was written. Each is what holds of the definition, carried over the contract's equation.
use mathlib.Core.Path.{◌≡◌, refl, sym, ap, subst, ◌∙◌}
use mathlib.Core.List.{List, []}
use Prim.Native.Nat.{ℕ}
use lib.IntN.{ℤ}
use Rattle.codes.specs.declared.Code.{Code}
use Rattle.list.specs.List.{ListRooms, Got, got, stop, Described, described, limit_of, read_of, list_of, Valid}
use Rattle.list.proofs.RoundTrip.{Holds, written_is_read}
use Rattle.codes.specs.Refusal.{refused}
use Rattle.codes.proofs.Refusals.{same_refusal}
use Rattle.reader.specs.Read.{ReadOutcome, outcome, read_outcome}
use Rattle.reader.specs.Refusals.{ReadRefusal, ReadRefused}
use Rattle.reader.proofs.Refusals as table

module _ (configured pixels : ℕ) (rooms : ListRooms) (list : List ℕ) where
  -- any two outcomes that the contract allows are equal
  pub one_outcome : (a b : ReadOutcome) → a ≡ read_outcome configured pixels rooms list → b ≡ read_outcome configured pixels rooms list → a ≡ b
  one_outcome a b p q = p ∙ sym q

  module _ (o : ReadOutcome) (is : o ≡ read_outcome configured pixels rooms list) where
    -- what is refused is in the table
    pub refused_exactly : (c : Code) (p : ℕ) → o.answer ≡ refused c p → ReadRefusal (limit_of configured pixels) rooms list c p
    refused_exactly c p e =
        table.refused_exactly (limit_of configured pixels) rooms list c p
        (stopped (read_of (limit_of configured pixels) rooms list) (sym (ap ReadOutcome.answer is) ∙ e))
      where
        stopped : (g : Got Described) → (outcome rooms g).answer ≡ refused c p → g ≡ stop c p
        stopped (got (described a zs ns ds cs) l) e = cc
        stopped (stop k q) e = let same = same_refusal e in cc

    -- what is in the table is refused, and leaves zeros
    pub given_exactly : (c : Code) (p : ℕ) → ReadRefusal (limit_of configured pixels) rooms list c p → ReadRefused rooms c p o
    given_exactly c p h =
        let e = table.given_exactly (limit_of configured pixels) rooms list c h.due h.rest h.reached h.given in
        let at : read_of (limit_of configured pixels) rooms list ≡ stop c p = e ∙ ap (λ (q : ℕ). stop c q) (sym h.place) in
        subst (ReadRefused rooms c p) (sym (is ∙ ap (outcome rooms) at))
        (record { answer = refl; told = refl; counts = refl; starts = refl; deltas = refl; coefficients = refl })

-- what is written is read: the outcome of the list of a valid description is that description
pub read_after_write : (configured pixels : ℕ) (rooms : ListRooms) (a : ℤ) (zs : List ℤ) (ns : List ℕ) (ds cs : List ℤ)
    → Valid (limit_of configured pixels) zs ns ds cs → Holds rooms zs ns ds cs
    → read_outcome configured pixels rooms (list_of (described a zs ns ds cs)) ≡ outcome rooms (got (described a zs ns ds cs) [])
read_after_write configured pixels rooms a zs ns ds cs v h = ap (outcome rooms) (written_is_read (limit_of configured pixels) rooms a zs ns ds cs v h)

-- Assumes nothing.
